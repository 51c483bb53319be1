-- The offers of a thread and of a list of threads, enumerated ("Steps", what threads offer).
use Prim.Native.Nat.{ℕ}
use mathlib.Core.Path.{◌≡◌, refl, ap}
use mathlib.Core.List.{List, [], ◌∷◌, ◌++◌, map}
use Rattle.meaning.specs.Bytes.Process.{Prefix, Process}
use Rattle.meaning.specs.Steps.State.{Bound, Thread, act, repl, names, settle}
use Rattle.meaning.specs.Steps.Offer.{Offer, ThreadOffer, own, copy, ListOffer, placed}
use Rattle.meaning.specs.Steps.Copies.{result_of}
use Rattle.meaning.specs.Steps.Enumeration.{Cut, cut, offers_at, offers_among, own_offer, copy_offers, offers_of, offers}
use Rattle.meaning.proofs.Steps.Enumeration.Places.{Derived, by, Lists, single, inverted, mapped}
use Rattle.meaning.proofs.Steps.Enumeration.Cuts.{chosen, SplitAt, among, among_paired, among_listed}
use Rattle.meaning.proofs.Steps.Enumeration.Copies.{result_repl, every_thread, every_list}

-- The repl thread stays, after the rest of its copy.
abbrev pub kept : Bound → Process → List Thread → List Thread
kept ρ P x = x ++ (repl ρ P ∷ [])

-- The enumeration as equations: a repl thread's from its copy, a list's from its threads.
pub offers_repl : (ρ : Bound) (P : Process) (n : ℕ)
    → offers_of (repl ρ P) n ≡ map (placed (kept ρ P)) (offers (names P ρ n) (settle P ρ n))
unfolding offers_of offers
offers_repl ρ P n = ap (λ (r : ℕ → List Offer). r n) (result_repl own_offer copy_offers ρ P)

pub offers-among : (n : ℕ) (ts : List Thread) → offers n ts ≡ among placed offers_of n ts
unfolding offers offers_among offers_at
offers-among n ts = among_paired placed offers_of n (offers_at n) (elim [ cut l t r ↦ refl ]) ts

abbrev ThreadListed : Thread → Type 1
ThreadListed t = (n : ℕ) → Lists (Derived (ThreadOffer n t)) (offers_of t n)

abbrev ListListed : List Thread → Type 1
ListListed ts = (n : ℕ) → Lists (Derived (ListOffer n ts)) (offers n ts)

-- The cases of the induction along copies: a list of threads, a thread that acts, a repl thread.
lists : (ts : List Thread) → ((c : Cut Thread) → SplitAt ts c → ThreadListed (chosen c)) → ListListed ts
lists ts listed n =
    inverted (rw (← offers-among n ts) at (among_listed placed offers_of n ThreadOffer ts listed))
    (λ G. elim [ by (cut l t r) s (by o d g) ↦ by _ (ListOffer.among s d) g ])
    (λ G. elim [ by _ (ListOffer.among {l = l} {r} {t} s d) g ↦ (by (cut l t r) s (by _ d g), refl) ])
    (λ G. elim [ by (cut l t r) s (by o d g) ↦ refl ])

acts : (ρ : Bound) (p : Prefix) (P : Process) → ThreadListed (act ρ p P)
unfolding offers_of result_of
acts ρ p P n = inverted (single _) (λ G g. by _ own g) (λ G. elim [ by _ own g ↦ (g, refl) ]) (λ G g. refl)

repls : (ρ : Bound) (P : Process) → ((n : ℕ) → ListListed (settle P ρ n)) → ThreadListed (repl ρ P)
repls ρ P copied n =
    inverted (rw (← offers_repl ρ P n) at (mapped (placed (kept ρ P)) (copied n (names P ρ n))))
    (λ G. elim [ by o d g ↦ by _ (copy d) g ]) (λ G. elim [ by _ (copy d) g ↦ (by _ d g, refl) ])
    (λ G. elim [ by o d g ↦ refl ])

pub offers_of_listed : (t : Thread) → ThreadListed t
offers_of_listed = every_thread ThreadListed ListListed lists acts repls

pub offers-listed : (ts : List Thread) → ListListed ts
offers-listed = every_list ThreadListed ListListed lists acts repls
