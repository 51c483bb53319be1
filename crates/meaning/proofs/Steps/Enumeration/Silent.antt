-- The silent steps of a thread and of a list of threads, enumerated ("Steps", the silent steps).
use Prim.Native.Nat.{ℕ}
use mathlib.Core.Path.{◌≡◌, refl, ap, ap₂}
use mathlib.Core.Logic.{◌⊎◌, inl, inr}
use mathlib.Core.List.{List, [], ◌∷◌, ◌++◌, map, flat_map}
use Rattle.meaning.specs.Bytes.Process.{Prefix, output, input, Process}
use Rattle.meaning.specs.Steps.State.{Bound, written, Thread, act, repl, names, settle}
use Rattle.meaning.specs.Steps.Offer.{Offer, offer, ThreadOffer, ListOffer, opened}
use Rattle.meaning.specs.Steps.Silent.{Meeting, Joins, join, ThreadSilent, within, copies, ListSilent, with_left, with_right, framed}
use Rattle.meaning.specs.Steps.Copies.{result_of}
use Rattle.meaning.specs.Steps.Enumeration.{Cut, cut, cuts, offers, joined, silent_at, pairs_at, silent_among}
use Rattle.meaning.specs.Steps.Enumeration.{no_silent, two_copies, copy_silent, silent_of, silents}
use Rattle.meaning.proofs.Steps.Enumeration.Places.{Derived, by, Lists, nothing, either, inverted, mapped, chained, if-equal}
use Rattle.meaning.proofs.Steps.Enumeration.Cuts.{chosen, SplitAt, cuts_listed, threads_paired, among, among_paired, among_listed}
use Rattle.meaning.proofs.Steps.Enumeration.Copies.{result_repl, every_list}
use Rattle.meaning.proofs.Steps.Enumeration.Offers.{kept, offers_of_listed, offers-listed}

-- The enumeration as equations: a repl thread's from its copy, a list's from its threads.
pub silent_repl : (ρ : Bound) (P : Process) (n : ℕ)
    → silent_of (repl ρ P) n ≡ map (framed (kept ρ P)) (silents (names P ρ n) (settle P ρ n)) ++ two_copies ρ P n
unfolding silent_of silents
silent_repl ρ P n = ap (λ (r : ℕ → List Meeting). r n) (result_repl no_silent copy_silent ρ P)

pub silents_among : (n : ℕ) (ts : List Thread)
    → silents n ts ≡ among framed silent_of n ts ++ flat_map (pairs_at n) (cuts ts)
unfolding silents silent_among silent_at
silents_among n ts =
    ap₂ (λ x us. x ++ flat_map (pairs_at n) (cuts us)) (among_paired framed silent_of n (silent_at n) (elim [ cut l t r ↦ refl ]) ts)
    (threads_paired silent_of ts)

-- Two offers are joined where the rule joins them, and nowhere else.
joined_listed : (arrange : List Thread → List Thread → List Thread) (o i : Offer)
    → Lists (Derived (Joins arrange o i)) (joined arrange o i)
unfolding joined
joined_listed arrange (offer ρ (output C M) P f m) (offer σ (input D) Q g k) =
    inverted (if-equal (written ρ C) (written σ D) _) (λ G e. by _ (join e.0) e.1)
    (λ G. elim [ by _ (join e) g ↦ ((e, g), refl) ]) (λ G e. refl)
joined_listed arrange (offer ρ (output C M) P f m) (offer σ (output D N) Q g k) = nothing (λ G. elim [ by _ j g ↦ elim j [ ] ])
joined_listed arrange (offer ρ (input C) P f m) (offer σ (input D) Q g k) = nothing (λ G. elim [ by _ j g ↦ elim j [ ] ])
joined_listed arrange (offer ρ (input C) P f m) (offer σ (output D N) Q g k) = nothing (λ G. elim [ by _ j g ↦ elim j [ ] ])

-- An offer with each offer of a list.
abbrev Meets : Offer → (n : ℕ) → List Thread → (List Thread → List Thread → List Thread) → (Meeting → Type 0) → Type 0
Meets o n ts arrange G = Derived (ListOffer n ts) (λ i. Derived (Joins arrange o i) G)

meets_listed : (o : Offer) (n : ℕ) (ts : List Thread) (arrange : List Thread → List Thread → List Thread)
    → Lists (Meets o n ts arrange) (flat_map (joined arrange o) (offers n ts))
meets_listed o n ts arrange = chained (offers-listed ts n) (λ i _. joined_listed arrange o i)

-- The offers of the thread at a cut with those left and right of it.
abbrev Pairs : ℕ → Cut Thread → (Meeting → Type 0) → Type 0
Pairs n (cut l t r) G =
    Derived (ThreadOffer n t) (λ o. Meets o (opened o) l (λ a b. b ++ a ++ r) G ⊎ Meets o (opened o) r (λ a b. l ++ a ++ b) G)

pairs_listed : (n : ℕ) (ts : List Thread)
    → Lists (λ G. Derived (SplitAt ts) (λ c. Pairs n c G)) (flat_map (pairs_at n) (cuts ts))
unfolding pairs_at
pairs_listed n ts = chained (cuts_listed ts) (λ c _. at c)
  where
    at : (c : Cut Thread) → Lists (Pairs n c) (pairs_at n c)
    at (cut l t r) = chained (offers_of_listed t n) (λ o _. either (meets_listed o (opened o) l _) (meets_listed o (opened o) r _))

-- The offers of one copy with those of a second.
abbrev TwoCopies : ℕ → Bound → Process → (Meeting → Type 0) → Type 0
TwoCopies n ρ P G =
    Derived (ListOffer (names P ρ n) (settle P ρ n))
    (λ o. Meets o (names P ρ (opened o)) (settle P ρ (opened o)) (λ a b. a ++ b ++ (repl ρ P ∷ [])) G)

copies_listed : (n : ℕ) (ρ : Bound) (P : Process) → Lists (TwoCopies n ρ P) (two_copies ρ P n)
unfolding two_copies
copies_listed n ρ P = chained (offers-listed _ _) (λ o _. meets_listed o _ _ _)

abbrev ThreadListed : Thread → Type 1
ThreadListed t = (n : ℕ) → Lists (Derived (ThreadSilent n t)) (silent_of t n)

abbrev ListListed : List Thread → Type 1
ListListed ts = (n : ℕ) → Lists (Derived (ListSilent n ts)) (silents n ts)

-- The cases of the induction along copies: a list of threads, a thread that acts, a repl thread.
lists : (ts : List Thread) → ((c : Cut Thread) → SplitAt ts c → ThreadListed (chosen c)) → ListListed ts
lists ts listed n =
    inverted (rw (← silents_among n ts) at (either (among_listed framed silent_of n ThreadSilent ts listed) (pairs_listed n ts)))
    (λ G. elim [
      | inl (by (cut l t r) s (by w d g)) ↦ by _ (ListSilent.among s d) g
      | inr (by (cut l t r) s (by o d (inl (by i e (by w j g))))) ↦ by w (with_left s d e j) g
      | inr (by (cut l t r) s (by o d (inr (by i e (by w j g))))) ↦ by w (with_right s d e j) g
    ])
    (λ G. elim [
      | by _ (ListSilent.among {l = l} {r} {t} s d) g ↦ (inl (by (cut l t r) s (by _ d g)), refl)
      | by w (with_left {l = l} {r} {t} s d e j) g ↦ (inr (by (cut l t r) s (by _ d (inl (by _ e (by w j g))))), refl)
      | by w (with_right {l = l} {r} {t} s d e j) g ↦ (inr (by (cut l t r) s (by _ d (inr (by _ e (by w j g))))), refl)
    ])
    (λ G. elim [
      | inl (by (cut l t r) s (by w d g)) ↦ refl
      | inr (by (cut l t r) s (by o d (inl (by i e (by w j g))))) ↦ refl
      | inr (by (cut l t r) s (by o d (inr (by i e (by w j g))))) ↦ refl
    ])

acts : (ρ : Bound) (p : Prefix) (P : Process) → ThreadListed (act ρ p P)
unfolding silent_of result_of
acts ρ p P n = nothing (λ G. elim [ by _ d g ↦ elim d [ ] ])

repls : (ρ : Bound) (P : Process) → ((n : ℕ) → ListListed (settle P ρ n)) → ThreadListed (repl ρ P)
repls ρ P copied n =
    inverted (rw (← silent_repl ρ P n) at (either (mapped (framed (kept ρ P)) (copied n (names P ρ n))) (copies_listed n ρ P)))
    (λ G. elim [
      | inl (by w d g) ↦ by _ (within d) g
      | inr (by o d (by i e (by w j g))) ↦ by w (copies d e j) g
    ])
    (λ G. elim [ by _ (within d) g ↦ (inl (by _ d g), refl) | by w (copies d e j) g ↦ (inr (by _ d (by _ e (by w j g))), refl) ])
    (λ G. elim [ inl (by w d g) ↦ refl | inr (by o d (by i e (by w j g))) ↦ refl ])

pub silents-listed : (ts : List Thread) → ListListed ts
silents-listed = every_list ThreadListed ListListed lists acts repls
