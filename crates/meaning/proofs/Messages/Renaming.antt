-- Private names renamed one to one: the equations, normal forms, sizes and the test of equality are the same ("Messages").
use Prim.Native.Nat.{ℕ}
use mathlib.Core.Path.{◌≡◌, refl, ◌∙◌, ap, ap₂}
use mathlib.Core.Logic.{∥∥₁_map}
use mathlib.Core.List.{map}
use lib.Dec.{T}
use lib.ListN.{get_or-map}
use Rattle.meaning.specs.Messages.Term.{fst, snd, Tree, leaf, proj, binary, name, variable, Name, public, private}
use Rattle.meaning.specs.Messages.Term.{Term, Message, nodes, substitute}
use Rattle.meaning.specs.Messages.Equation.{◌⇝◌, projected, undone, Stuck, Normal}
use Rattle.meaning.specs.Messages.Equation.{◌≈◌, equation, reflexive, symmetric, transitive, under_proj, under_binary}
use Rattle.meaning.specs.Messages.Normal.{normal, equal}
use Rattle.meaning.specs.Steps.State.{Bound, written}
use Rattle.meaning.proofs.Test.{T-alike}
use Rattle.meaning.proofs.Messages.{normal_forms, normal_of_normal, equal_by_normal_forms, equality_decided}

-- The equations hold whatever stands for the leaves.
module _ {K L : Type 0} (f : K → Tree L) where
  equation_substituted : {m n : Tree K} → m ⇝ n → substitute f m ⇝ substitute f n
  equation_substituted (projected fst m n) = projected fst (substitute f m) (substitute f n)
  equation_substituted (projected snd m n) = projected snd (substitute f m) (substitute f n)
  equation_substituted (undone d m k) = undone d (substitute f m) (substitute f k)

  equal_substituted : {m n : Tree K} → m ≈ n → substitute f m ≈ substitute f n
  equal_substituted (equation e) = equation (equation_substituted e)
  equal_substituted (reflexive m) = reflexive (substitute f m)
  equal_substituted (symmetric e) = symmetric (equal_substituted e)
  equal_substituted (transitive d e) = transitive (equal_substituted d) (equal_substituted e)
  equal_substituted (under_proj s e) = under_proj s (equal_substituted e)
  equal_substituted (under_binary b d e) = under_binary b (equal_substituted d) (equal_substituted e)

abbrev renamed_name : (ℕ → ℕ) → Name → Name
renamed_name f (public a) = public a
renamed_name f (private k) = private (f k)

abbrev renamed : (ℕ → ℕ) → Name → Message
renamed f a = leaf (renamed_name f a)

abbrev pub rename : (ℕ → ℕ) → Message → Message
rename f m = substitute (renamed f) m

module _ (f : ℕ → ℕ) where
  pub rename_nodes : (m : Message) → nodes (rename f m) ≡ nodes m
  rename_nodes (leaf a) = refl
  rename_nodes (proj s m) = rw (rename_nodes m)
  rename_nodes (binary b m n) = rw (rename_nodes m, rename_nodes n)

  pub rename_written : (ρ : Bound) (t : Term) → written (map (rename f) ρ) t ≡ rename f (written ρ t)
  rename_written ρ (leaf (name a)) = refl
  rename_written ρ (leaf (variable k)) = get_or-map (rename f) ρ k (leaf (public 0))
  rename_written ρ (proj s t) = ap (proj s) (rename_written ρ t)
  rename_written ρ (binary b t u) = ap₂ (binary b) (rename_written ρ t) (rename_written ρ u)

  rename_passes : (m n : Message) → T (equal m n) → T (equal (rename f m) (rename f n))
  rename_passes m n t =
      (equality_decided (rename f m) (rename f n)).0 (∥∥₁_map ((equality_decided m n).1 t) (equal_substituted (renamed f)))

-- A renaming that another one takes back.
module _ (f g : ℕ → ℕ) (back : (k : ℕ) → g (f k) ≡ k) where
  rename_back : (m : Message) → rename g (rename f m) ≡ m
  rename_back (leaf (public a)) = refl
  rename_back (leaf (private k)) = rw back
  rename_back (proj s m) = ap (proj s) (rename_back m)
  rename_back (binary b m n) = ap₂ (binary b) (rename_back m) (rename_back n)

  rename_stuck : (m : Message) → Stuck m → Stuck (rename f m)
  rename_stuck m s n e = s (rename g n) (rw (rename_back m) at (equation_substituted (renamed g) e))

  rename_keeps_normal : (m : Message) → Normal m → Normal (rename f m)
  rename_keeps_normal (leaf a) h = rename_stuck (leaf a) h
  rename_keeps_normal (proj s m) h = (rename_stuck (proj s m) h.0, rename_keeps_normal m h.1)
  rename_keeps_normal (binary b m n) h =
      (rename_stuck (binary b m n) h.0, rename_keeps_normal m h.1, rename_keeps_normal n h.2)

  pub rename_normal : (m : Message) → normal (rename f m) ≡ rename f (normal m)
  rename_normal m =
      (equal_by_normal_forms (rename f m) (rename f (normal m))).0 (symmetric (equal_substituted (renamed f) (normal_forms m).1))
      ∙ normal_of_normal (rename f (normal m)) (rename_keeps_normal (normal m) (normal_forms m).0)

  pub rename_equal : (m n : Message) → equal (rename f m) (rename f n) ≡ equal m n
  rename_equal m n =
      T-alike (equal (rename f m) (rename f n)) (equal m n)
      (λ t. rw (rename_back m, rename_back n) at (rename_passes g (rename f m) (rename f n) t)) (rename_passes f m n)
