-- The steps of a state as a list, in document 01's order ("Steps").
use Rattle.std.specs.Prelude.{ℕ, true, false}
use mathlib.Core.List.{List, [], ◌∷◌, ◌++◌, map, flat_map}
use Rattle.meaning.specs.Messages.Term.{Recipe}
use Rattle.meaning.specs.Messages.Normal.{equal}
use Rattle.meaning.specs.Bytes.Process.{Prefix, output, input, Process}
use Rattle.meaning.specs.Bytes.Formula.{Label}
use Rattle.meaning.specs.Steps.State.{Bound, written, Thread, repl, names, settle, State}
use Rattle.meaning.specs.Steps.Offer.{Offer, offer, placed, opened}
use Rattle.meaning.specs.Steps.Silent.{Meeting, meeting, framed}
use Rattle.meaning.specs.Steps.Step.{after_output, after_input, after_silent}
use Rattle.meaning.specs.Steps.Copies.{result_of, paired}

-- A list cut at one of its elements, and all such cuts, left to right.
pub data Cut (A : Type 0) : Type 0 where
  cut : (l : List A) (t : A) (r : List A) → Cut A

abbrev pub shift : {A : Type 0} → A → Cut A → Cut A
shift u (cut l t r) = cut (u ∷ l) t r

unfoldable pub cuts : {A : Type 0} → List A → List (Cut A)
cuts [] = []
cuts (t ∷ ts) = cut [] t ts ∷ map (shift t) (cuts ts)

-- The threads of a list of threads with results.
abbrev pub threads_of : {X : Type 0} → List (Thread × X) → List Thread
threads_of xs = map (λ x. x.0) xs

-- Offers. Those of a list: thread by thread, what is left and right of the thread staying.
unfoldable pub offers_at : ℕ → Cut (Thread × (ℕ → List Offer)) → List Offer
offers_at n (cut l t r) = map (placed (λ x. threads_of l ++ x ++ threads_of r)) (t.1 n)

unfoldable pub offers_among : ℕ → List (Thread × (ℕ → List Offer)) → List Offer
unfolding flat_map
offers_among n ts = flat_map (offers_at n) (cuts ts)

-- Those of a thread: its own, or those of a fresh settled copy, with the repl thread after the copy's rest.
abbrev pub own_offer : Bound → Prefix → Process → ℕ → List Offer
own_offer ρ p P n = offer ρ p P (λ x. x) n ∷ []

abbrev pub copy_offers : Bound → Process → (ℕ → List (Thread × (ℕ → List Offer))) → ℕ → List Offer
copy_offers ρ P copy n = map (placed (λ x. x ++ (repl ρ P ∷ []))) (offers_among (names P ρ n) (copy n))

unfoldable pub offers_of : Thread → ℕ → List Offer
offers_of t = result_of own_offer copy_offers t

unfoldable pub offers : ℕ → List Thread → List Offer
offers n ts = offers_among n (paired offers_of ts)

-- One meeting where the first offer can send to the second, none otherwise.
unfoldable pub joined : (List Thread → List Thread → List Thread) → Offer → Offer → List Meeting
joined arrange (offer ρ (output C M) P f m) (offer σ (input D) Q g k) =
    elim (equal (written ρ C) (written σ D)) [ true ↦ meeting ρ M P σ Q (λ x y. arrange (f x) (g y)) k ∷ [] | false ↦ [] ]
joined arrange (offer ρ (output C M) P f m) (offer σ (output D N) Q g k) = []
joined arrange (offer ρ (input C) P f m) (offer σ (input D) Q g k) = []
joined arrange (offer ρ (input C) P f m) (offer σ (output D N) Q g k) = []

-- Silent steps. First those of a list's threads, thread by thread.
unfoldable pub silent_at : ℕ → Cut (Thread × (ℕ → List Meeting)) → List Meeting
silent_at n (cut l t r) = map (framed (λ x. threads_of l ++ x ++ threads_of r)) (t.1 n)

-- Then the pairs: the sender's thread, its offers, and for each the takers left of it and right of it.
unfoldable pub pairs_at : ℕ → Cut Thread → List Meeting
pairs_at n (cut l t r) =
    flat_map (λ o. flat_map (joined (λ a b. b ++ a ++ r) o) (offers (opened o) l) ++ flat_map (joined (λ a b. l ++ a ++ b) o) (offers (opened o) r))
    (offers_of t n)

unfoldable pub silent_among : ℕ → List (Thread × (ℕ → List Meeting)) → List Meeting
silent_among n ts = flat_map (silent_at n) (cuts ts) ++ flat_map (pairs_at n) (cuts (threads_of ts))

-- Those of a repl thread: first inside a copy, then from one copy to another.
abbrev pub no_silent : Bound → Prefix → Process → ℕ → List Meeting
no_silent ρ p P n = []

unfoldable pub two_copies : Bound → Process → ℕ → List Meeting
two_copies ρ P n =
    flat_map (λ o. flat_map (joined (λ a b. a ++ b ++ (repl ρ P ∷ [])) o) (offers (names P ρ (opened o)) (settle P ρ (opened o))))
    (offers (names P ρ n) (settle P ρ n))

abbrev pub copy_silent : Bound → Process → (ℕ → List (Thread × (ℕ → List Meeting))) → ℕ → List Meeting
copy_silent ρ P copy n =
    map (framed (λ x. x ++ (repl ρ P ∷ []))) (silent_among (names P ρ n) (copy n)) ++ two_copies ρ P n

unfoldable pub silent_of : Thread → ℕ → List Meeting
silent_of t = result_of no_silent copy_silent t

unfoldable pub silents : ℕ → List Thread → List Meeting
silents n ts = silent_among n (paired silent_of ts)

-- Labelled steps: each offer that answers the label, each silent step.
unfoldable pub sent : State → Recipe → Offer → List State
sent S R (offer ρ (output C M) P f m) =
    elim (equal (written ρ C) (written S.aliases R)) [ true ↦ after_output S ρ M P f m ∷ [] | false ↦ [] ]
sent S R (offer ρ (input C) P f m) = []

unfoldable pub taken : State → (R N : Recipe) → Offer → List State
taken S R N (offer ρ (output C M) P f m) = []
taken S R N (offer ρ (input C) P f m) =
    elim (equal (written ρ C) (written S.aliases R)) [ true ↦ after_input S N ρ P f m ∷ [] | false ↦ [] ]

unfoldable pub steps : State → Label → List State
steps S (Label.output R) = flat_map (sent S R) (offers S.next S.threads)
steps S (Label.input R N) = flat_map (taken S R N) (offers S.next S.threads)
steps S Label.silent = map (after_silent S) (silents S.next S.threads)
