-- One node down, through a new, an if or a let ("Steps").
use Rattle.std.specs.Prelude.{Option, Some, None}
use mathlib.Core.Path.{◌≡◌, refl, sym, ap, ◌∙◌}
use mathlib.Core.Bool.{Bool, true, false, ◌||◌}
use mathlib.Core.List.{List, [], ◌∷◌}
use Prim.Native.Nat.{ℕ, suc, ◌+◌, ◌-◌, ◌≤◌, ◌<◌}
use native.Mathlib.Omega.{arith}
use lib.ListN.{length, get_or, length-append}
use Rattle.meaning.specs.Messages.Term.{Term, Message, leaf, private}
use Rattle.meaning.specs.Messages.Equation.{Normal}
use Rattle.meaning.specs.Messages.Normal.{normal, equal}
use Rattle.meaning.specs.Bytes.Process.{Process, new, if, let_in}
use Rattle.meaning.specs.Bytes.Encoding.{encode_process}
use Rattle.meaning.specs.Bytes.Nesting.{variables}
use Rattle.meaning.specs.Steps.State.{Bound, ◌▸◌, written, worked}
use Rattle.meaning.specs.Judging.Limits.{over}
use Rattle.meaning.proofs.Messages.{normal_forms}
use Rattle.buffer.specs.Buffer.{Within}
use Rattle.message_term.specs.Bound.{Binds}
use Rattle.message_term.specs.Work.{BindWorked, Reaches}
use Rattle.message_binding.specs.Decide.{Compares, compared_of}
use Rattle.message_term.specs.declared.work.Worked.{Worked}
use Rattle.message_binding.specs.declared.decide.Compared.{Compared}
use Rattle.message_term.proofs.Laws.Work.{said_over, said_small}
use Rattle.message_term.proofs.Theorems.{bound_further}
use Rattle.state_record.specs.Place.{ProcessAt, then_at, else_at}
use Rattle.state_progress.specs.TraversalResult.{over_limit}
use Rattle.state_task.specs.Place.{Chosen}
use Rattle.state_record.proofs.Laws.Process.{in_model, shaped, of_new, of_if, of_let}
use Rattle.state_task.proofs.Laws.Bound.{bound_at, bound_still}
use Rattle.state_head.specs.News.{news}
use Rattle.state_head.specs.Traversal.{go}
use Rattle.state_head.specs.Head.{CanSettle, MeetsLimit, HasHead, DescendsIf, Arrives}
use Rattle.state_head.specs.declared.head.Head.{Head}
use Rattle.state_head.proofs.Laws.Head.{some_or_none, onward}

-- Where the step comes to.
abbrev head_at : (at left end n : ℕ) → Head
head_at at left end n = record { at = at; left = left; end = end; names = n }

-- A step down to where the code arrives, and a limit.
module _ {s m : List ℕ} {at left end n kind : ℕ} where
  steps : {m₁ : List ℕ} {to less last k : ℕ} {r : Option Head} → Arrives s to less (length m₁) last k r
      → ((P : Process) (ρ : Bound) → CanSettle s at left m end n P ρ → get_or s at 0 ≡ kind → HasHead s P at ρ n (head_at to less last k) m₁)
      → DescendsIf kind s at left m end n r m₁
  steps {m₁} {to} {less} {last} {k} a f = record {
    exact = λ e. onward {h = head_at to less last k} (λ P ρ y. f P ρ y e) (a.descends m₁ refl);
  }

  limit : {m₁ : List ℕ} → ((P : Process) (ρ : Bound) → CanSettle s at left m end n P ρ → get_or s at 0 ≡ kind → MeetsLimit P at ρ n)
      → DescendsIf kind s at left m end n None m₁
  limit f = record { exact = λ e. record { over = λ _ P ρ y. f P ρ y e; head = λ h is. absurd (some_or_none (sym is)) } }

-- One message more is bound.
longer : (ρ : Bound) (x : Message) → length (ρ ▸ x) ≡ suc (length ρ)
longer ρ x = omega (arith, length-append ρ (x ∷ []))

bound-further : {s m m₁ : List ℕ} {at left end n last next to k : ℕ} {P : Process} {ρ : Bound} (Q : Process) (x : Message)
    → CanSettle s at left m end n P ρ → variables P ≡ 1 + variables Q → ProcessAt s next (left - 1) (suc (length ρ)) Q to
    → k + news Q ≤ 32760 → Normal x → Binds m end x last m₁ → length m₁ ≡ length m → last ≤ end + 512
    → CanSettle s next (left - 1) m₁ last k Q (ρ ▸ x)
bound-further {m = m} {m₁} {end = end} {last = last} {to = to} {ρ = ρ} Q x y v p f u b l e = record {
  next = to;
  process = rw (← longer ρ x) at p;
  bound = bound_further m m₁ 0 end last ρ x y.bound u (omega (arith, y.process.few)) b;
  room = omega (arith, y.room);
  fits = f;
}

-- New.
module _ {s m : List ℕ} {at left end n : ℕ} where
  pub new_over : 32759 < n → DescendsIf 1 s at left m end n None m
  new_over l = limit λ P ρ y e. let (Q, f) = shaped 1 P y.process e in absurd (omega (arith, (rw f at y).fits))

  pub new_down : {m₁ : List ℕ} {last : ℕ} {r : Option Head} → Arrives s (at + 1) (left - 1) (length m₁) last (n + 1) r
      → Binds m end (leaf (private n)) last m₁ → Within end (end + 4) m m₁ → last ≡ end + 4 → DescendsIf 1 s at left m end n r m₁
  unfolding go normal
  new_down {m₁} {last} a b k l = steps a λ P ρ y e. let (Q, f) = shaped 1 P y.process e in rw f (one Q ρ (rw f at y))
    where
      one : (P : Process) (ρ : Bound) → CanSettle s at left m end n (new P) ρ
          → HasHead s (new P) at ρ n (head_at (at + 1) (left - 1) last (n + 1)) m₁
      one P ρ y =
          let next : n + 1 ≡ suc n = omega arith in
          record {
            process = P;
            bound = ρ ▸ leaf (private n);
            settles =
                bound-further P (leaf (private n)) y refl (of_new P y.process) (omega (arith, y.fits))
                (normal_forms (leaf (private n))).0 b k.long (omega arith);
            traverses = record { same = λ T x g. rw next refl; later = omega arith };
          }

pub ruleset news_down = (new_over, new_down)

-- Let.
module _ {s m m₁ : List ℕ} {at left end n : ℕ} {w : Option Worked} (b : BindWorked s (at + 1) m 0 end w m₁) where
  pub let_over : w ≡ None → DescendsIf 5 s at left m end n None m₁
  unfolding go
  let_over is = limit λ P ρ y e.
      let (M, Q, f) = shaped 5 P y.process e in
      let (t, q) = of_let M Q (rw f at y).process in
      let large = said_over _ _ _ (b.answer M ρ t (bound_at y.bound)) is in
      rw f (record { over = λ T x g. rw large refl })

  pub let_down : {x : Worked} {r : Option Head} → w ≡ Some x → Arrives s x.next (left - 1) (length m₁) x.end n r
      → Within end (end + 4098) m m₁ → x.end ≤ end + 2 + 510 → DescendsIf 5 s at left m end n r m₁
  unfolding go
  let_down {x} is a k l = steps a λ P ρ y e. let (M, Q, f) = shaped 5 P y.process e in rw f (one M Q ρ (rw f at y))
    where
      one : (M : Term) (P : Process) (ρ : Bound) → CanSettle s at left m end n (let_in M P) ρ
          → HasHead s (let_in M P) at ρ n (head_at x.next (left - 1) x.end n) m₁
      one M P ρ y =
          let (t, q) = of_let M P y.process in
          let (small, here, ends) = said_small _ _ _ (b.answer M ρ t (bound_at y.bound)) is in
          let run = b.run M ρ t (bound_at y.bound) small in
          record {
            process = P;
            bound = ρ ▸ worked ρ M;
            settles =
                bound-further P (worked ρ M) y refl (rw (← here) at q) (omega (arith, y.fits)) (normal_forms (written ρ M)).0
                (rw (← ends) at run) k.long (omega arith);
            traverses = record { same = λ T x g. rw (small, here) refl; later = omega arith };
          }

pub ruleset lets_down = (let_over, let_down)

-- How far a message that was bound reaches.
module _ {w : Option Worked} {x : Worked} (end : ℕ) (e : w ≡ Some x) (h : Reaches (end + 2) 8 w) where
  pub ends_later : end ≤ x.end
  ends_later = let (low, high, one) = h.there x e in omega arith

  pub ends_before : {k : ℕ} → x.end ≤ k → end ≤ k
  ends_before l = let (low, high, one) = h.there x e in omega arith

  pub ends_soon : x.end ≤ end + 2 + 510
  ends_soon = let (low, high, one) = h.there x e in omega arith

  pub ends_above : 1024 ≤ end → 1024 ≤ x.end
  ends_above b = let (low, high, one) = h.there x e in omega arith

  pub ends_within : {m m₁ : List ℕ} → Within end (end + 4098) m m₁ → end + 4606 ≤ length m → x.end ≤ length m₁
  ends_within k b = let (low, high, one) = h.there x e in omega (arith, k.long)

pub ruleset let_ends = (ends_later, ends_soon, ends_above, ends_within)

-- What an answer says of two terms that are compared.
module _ (b : Bool) (next : ℕ) (c : Bool) {r : Option Compared} (a : r ≡ compared_of b next c) where
  terms_or_large : {x : Compared} → Some x ≡ None → ⊥
  terms_or_large e = let z : ◌≡◌ {A = ℕ} 0 1 = cc in omega arith

  large : r ≡ None → b ≡ true
  unfolding compared_of
  large e = by_case b (sym a ∙ e)
    where
      by_case : (b : Bool) → compared_of b next c ≡ None → b ≡ true
      by_case true f = refl
      by_case false f = absurd (terms_or_large f)

  fine : {x : Compared} → r ≡ Some x → (b ≡ false) × (x.next ≡ next) × (x.same ≡ c)
  unfolding compared_of
  fine {x} e = by_case b (sym a ∙ e)
    where
      by_case : (b : Bool) → compared_of b next c ≡ Some x → (b ≡ false) × (x.next ≡ next) × (x.same ≡ c)
      by_case true f = absurd (terms_or_large (sym f))
      by_case false f =
          let same : record { next = next; same = c } ≡ x = cc in
          (refl, ap (λ y. y.next) (sym same), ap (λ y. y.same) (sym same))

-- If.
module _ {s m : List ℕ} {at left end n : ℕ} {w : Option Compared} (b : Compares s (at + 1) m 0 end w) where
  compared_as : (M N : Term) (P Q : Process) (ρ : Bound) → CanSettle s at left m end n (if M N P Q) ρ
      → w ≡ compared_of (over ρ M || over ρ N) (then_at at M N) (equal (written ρ M) (written ρ N))
  compared_as M N P Q ρ y = let (t, u, p, q) = of_if M N P Q y.process in b.exact M N ρ t u (bound_at y.bound)

  pub if_over : {m₁ : List ℕ} → w ≡ None → DescendsIf 4 s at left m end n None m₁
  unfolding go
  if_over is = limit λ P ρ y e.
      let (M, N, Q, R, f) = shaped 4 P y.process e in
      let wide = large _ _ _ (compared_as M N Q R ρ (rw f at y)) is in
      rw f (record { over = λ T x g. rw wide (refl {a = over_limit}) })

  pub if_down : {m₁ : List ℕ} {x : Compared} {to high : ℕ} {r : Option Head} → w ≡ Some x → Chosen s x.next x.same to
      → Arrives s to (left - 1) (length m₁) end n r → Within end high m m₁ → DescendsIf 4 s at left m end n r m₁
  unfolding go
  if_down {m₁} {x} {to} {high} is c a k =
      steps a λ P ρ y e. let (M, N, Q, R, f) = shaped 4 P y.process e in rw f (one M N Q R ρ (rw f at y))
    where
      -- The branch that was chosen.
      branch : (M N : Term) (P Q : Process) (ρ : Bound) → CanSettle s at left m end n (if M N P Q) ρ → over ρ M || over ρ N ≡ false
          → x.next ≡ then_at at M N → (b : Bool) → x.same ≡ b → equal (written ρ M) (written ρ N) ≡ b
          → HasHead s (if M N P Q) at ρ n (head_at to (left - 1) end n) m₁
      branch M N P Q ρ y small i true e t =
          let (_, _, p, q) = of_if M N P Q y.process in
          let here : to ≡ then_at at M N = c.first e ∙ i in
          record {
            process = P;
            bound = ρ;
            settles = record {
              next = to + length (encode_process P);
              process = rw (← here) at p;
              bound = bound_still y.bound k;
              room = omega (arith, y.room, k.long);
              fits = omega (arith, y.fits);
            };
            traverses = record { same = λ T x g. rw (small, t, here) refl; later = omega arith };
          }
      branch M N P Q ρ y small i false e t =
          let (_, _, p, q) = of_if M N P Q y.process in
          let here : to ≡ else_at at M N P = omega (arith, i, (c.second e).same P (rw (← i) at (in_model p))) in
          record {
            process = Q;
            bound = ρ;
            settles = record {
              next = y.next;
              process = rw (← here) at q;
              bound = bound_still y.bound k;
              room = omega (arith, y.room, k.long);
              fits = omega (arith, y.fits);
            };
            traverses = record { same = λ T x g. rw (small, t, here) refl; later = omega arith };
          }

      one : (M N : Term) (P Q : Process) (ρ : Bound) → CanSettle s at left m end n (if M N P Q) ρ
          → HasHead s (if M N P Q) at ρ n (head_at to (left - 1) end n) m₁
      one M N P Q ρ y =
          let (small, i, same-as) = fine _ _ _ (compared_as M N P Q ρ y) is in
          branch M N P Q ρ y small i (equal (written ρ M) (written ρ N)) same-as refl

pub ruleset ifs_down = (if_over, if_down)
