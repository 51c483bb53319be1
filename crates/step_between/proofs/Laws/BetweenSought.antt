-- What a traversal of the records of threads sees first is the first of the offers of these threads ("Steps").
use Prim.Native.Nat.{ℕ, ◌+◌, ◌≤◌, ◌<◌}
use native.Mathlib.Omega.{arith}
use native.Mathlib.Nat.{le_refl}
use mathlib.Core.Path.{◌≡◌, refl, sym, ◌∙◌, ap, subst}
use mathlib.Core.Bool.{Bool, true, false}
use mathlib.Core.List.{List, [], ◌∷◌, ◌++◌, map, append_assoc}
use lib.Dec.{eqb}
use lib.ListN.{length}
use borrow.Author.Tests.{eqb-true, eqb-false, eq-eqb, ne_eqb}
use Rattle.meaning.specs.Messages.Term.{Message}
use Rattle.meaning.specs.Places.{Every, none, ◌also◌}
use Rattle.meaning.proofs.Every.{every_map, every_joined}
use Rattle.state_record.specs.Record.{Placed, encode_record, encode_records, Standing}
use Rattle.state_task.specs.declared.task.Quest.{Quest}
use Rattle.step_located.specs.Located.{LocatedOffer}
use Rattle.step_located.specs.Sought.{wanted}
use Rattle.step_located.proofs.Laws.Everywhere.{every_mapped, everywhere}
use Rattle.step_transition.specs.Focus.{Focus, focuses_from, record_at, offers_of, filter}
use Rattle.step_transition.specs.Threads.{Judged, Threads}
use Rattle.step_offer.specs.Seek.{Sight, seen, first_of, first_among}
use Rattle.step_transition.specs.Outcome.{same}
use Rattle.step_between.specs.Between.{Party, parties_from, sight_of}
use Rattle.step_transition.proofs.Laws.Threads.{first_thread}
use Rattle.step_transition.proofs.Laws.Records.{record_long, records_further, whole, same_record, other_record}
use Rattle.step_transition.proofs.Laws.SplitLists.{since, wanted_since}
use Rattle.step_transition.proofs.Laws.MovesLists.{every_filter}
use Rattle.step_offer.proofs.Laws.Seek.{among_skipped, among_sought}
use Rattle.step_between.proofs.Laws.BetweenLists.{party}

-- A thread of the list ps, whose record stands before the end of the state.
pub record Seated (s : List ℕ) (start k to : ℕ) (ps : List Placed) (p : Focus) : Type 0 where
  pub parts : ps ≡ whole p
  pub standing : Standing s p.thread
  pub judged : Judged k p.thread
  pub below : record_at start p < to

pub spots_seated : {s out : List ℕ} {start k to : ℕ} (ls ts : List Placed) → Threads s out (start + length (encode_records ls)) k ts to
    → Every (Seated s start k to (ls ++ ts)) (focuses_from ls ts)
unfolding focuses_from
spots_seated ls [] h = none
spots_seated {s} {out} {start} {k} {to} ls (t ∷ ts) h =
    let (p, j, rest) = first_thread t ts h in
    let here : start + length (encode_records ls) + length (encode_record t) ≡ start + length (encode_records (ls ++ (t ∷ []))) =
    omega (arith, records_further ls t) in
    let others = spots_seated (ls ++ (t ∷ [])) ts (subst (λ (n : ℕ). Threads s out n k ts to) here rest) in
    let below : start + length (encode_records ls) < to = omega (arith, rest.stands.size, record_long t) in
    record { parts = refl; standing = p.standing; judged = j; below = below }
    also subst (λ ps. Every (Seated s start k to ps) (focuses_from (ls ++ (t ∷ [])) ts)) (append_assoc ls (t ∷ []) ts) others

-- What a thread offers, unless its record stands at the position skip.
abbrev pub offers_beside : (start k skip : ℕ) → Focus → List LocatedOffer
offers_beside start k skip p = elim (eqb (record_at start p) skip) [ true ↦ [] | false ↦ offers_of p.thread k ]

module _ (q : Quest) (x : Message) (start k skip : ℕ) (f : Focus → List LocatedOffer) where
  first_listed : (n : ℕ) (p : Focus) (at : ℕ) → at ≡ record_at start p → (os : List LocatedOffer) (later : Sight) (rest : List Party)
      → later ≡ sight_of start rest
      → first_of (since n q) x at os later ≡ sight_of start (map (party p) (filter (wanted (since n q) x) os) ++ rest)
  unfolding first_of filter
  first_listed n p at e [] later rest h = h
  first_listed n p at e (a ∷ os) later rest h = of (wanted (since n q) x a) (first_listed n p at e os later rest h)
    where
      of : (b : Bool)
          → first_of (since n q) x at os later ≡ sight_of start (map (party p) (filter (wanted (since n q) x) os) ++ rest)
          → elim b [ true ↦ seen at a | false ↦ first_of (since n q) x at os later ]
          ≡ sight_of start (map (party p)
          (elim b [ true ↦ a ∷ filter (wanted (since n q) x) os | false ↦ filter (wanted (since n q) x) os ]) ++ rest)
      of true go = ap (λ i. seen i a) e
      of false go = go

  pub first-among : (n : ℕ) (ls ts : List Placed) (at : ℕ) → at ≡ start + length (encode_records ls)
      → Every (λ p. f p ≡ offers_beside start k skip p) (focuses_from ls ts)
      → first_among (since n q) x k skip at ts ≡ sight_of start (parties_from (since n q) x f (focuses_from ls ts))
  unfolding first_among parties_from focuses_from filter
  first-among n ls [] at e all = refl
  first-among n ls (t ∷ ts) at e (h also hs) =
      by_test (eqb at skip) refl
      (first-among 0 (ls ++ (t ∷ [])) ts (at + length (encode_record t)) (omega (arith, records_further ls t)) hs)
    where
      p : Focus
      p = record { before = ls; thread = t; behind = ts }

      rest : List Party
      rest = parties_from (since 0 q) x f (focuses_from (ls ++ (t ∷ [])) ts)

      offers : (b : Bool) → eqb at skip ≡ b → f p ≡ elim b [ true ↦ [] | false ↦ offers_of t k ]
      offers b c = h ∙ ap (λ d. elim d [ true ↦ [] | false ↦ offers_of t k ]) (ap (λ i. eqb i skip) (sym e) ∙ c)

      by_test : (b : Bool) → eqb at skip ≡ b
          → first_among (since 0 q) x k skip (at + length (encode_record t)) ts ≡ sight_of start rest
          → first_among (since n q) x k skip at (t ∷ ts)
          ≡ sight_of start (map (party p) (filter (wanted (since n q) x) (f p)) ++ rest)
      by_test true c go =
          among_skipped (since n q) x k skip at t ts c ∙ go
          ∙ ap (λ os. sight_of start (map (party p) (filter (wanted (since n q) x) os) ++ rest)) (sym (offers true c))
      by_test false c go =
          among_sought (since n q) x k skip at t ts c ∙ first_listed n p at e (offers_of t k) _ rest go
          ∙ ap (λ os. sight_of start (map (party p) (filter (wanted (since n q) x) os) ++ rest)) (sym (offers false c))

-- The first of them are at the position n or above it in the first thread, or in a later one.
pub record Placing (n : ℕ) (ls : List Placed) (w : Party) : Type 0 where
  pub later : length (encode_records ls) ≤ length (encode_records w.focus.before)
  pub from : length (encode_records ls) ≡ length (encode_records w.focus.before) → n ≤ w.offer.place

pub parties_placed : (q : Quest) (x : Message) (f : Focus → List LocatedOffer) (n : ℕ) (ls ts : List Placed)
    → Every (Placing n ls) (parties_from (since n q) x f (focuses_from ls ts))
unfolding parties_from focuses_from
parties_placed q x f n ls [] = none
parties_placed q x f n ls (t ∷ ts) =
    let p : Focus = record { before = ls; thread = t; behind = ts } in
    every_joined
    (every_mapped (party p) (every_filter (wanted (since n q) x) (everywhere (λ a e. record {
      later = le_refl _;
      from = λ _. wanted_since q x n a e;
    }) (f p))))
    (every_map (λ w h. record {
      later = omega (arith, h.later, records_further ls t);
      from = λ e. absurd (omega (arith, h.later, records_further ls t, record_long t));
    }) (parties_placed q x f 0 (ls ++ (t ∷ [])) ts))

-- No record stands at the end of the state; and a thread is the sender's if its record stands where the sender's does.
pub nothing_skipped : {s : List ℕ} {start k to : ℕ} {ps : List Placed} (p : Focus) → Seated s start k to ps p
    → offers_of p.thread k ≡ offers_beside start k to p
nothing_skipped {start = start} {k = k} {to = to} p h =
    let apart : eqb (record_at start p) to ≡ false = ne_eqb (record_at start p) to (omega (arith, h.below)) in
    ap (λ b. elim b [ true ↦ [] | false ↦ offers_of p.thread k ]) (sym apart)

pub sender_skipped : {s : List ℕ} {start k to : ℕ} {ps : List Placed} (n : ℕ) (p q : Focus) → ps ≡ whole p → Seated s start k to ps q
    → elim (same p q) [ true ↦ [] | false ↦ offers_of q.thread n ] ≡ offers_beside start n (record_at start p) q
sender_skipped {start = start} n p q e h =
    ap (λ b. elim b [ true ↦ [] | false ↦ offers_of q.thread n ]) (alike (same p q) refl)
  where
    one : whole q ≡ whole p
    one = sym h.parts ∙ e

    alike : (b : Bool) → same p q ≡ b → same p q ≡ eqb (record_at start q) (record_at start p)
    alike true c =
        c ∙ sym (eq-eqb (record_at start q) (record_at start p)
        (same_record start q p one (eqb-true (length q.before) (length p.before) c)).0)
    alike false c =
        c ∙ sym (ne_eqb (record_at start q) (record_at start p)
        (other_record start q p one (eqb-false (length q.before) (length p.before) c)))
