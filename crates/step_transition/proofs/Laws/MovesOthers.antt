-- The other threads of a list: those before a thread, and then those behind it ("Steps").
use native.Mathlib.Omega.{arith}
use mathlib.Core.Path.{◌≡◌, refl, sym, ◌∙◌, ap, ap₂}
use mathlib.Core.Bool.{Bool, true, false, not}
use mathlib.Core.List.{List, [], ◌∷◌, ◌++◌, map, append-nil, append_assoc}
use lib.Dec.{eqb}
use lib.ListN.{length, length-append}
use borrow.Author.Tests.{eq-eqb, ne_eqb}
use Rattle.meaning.proofs.Every.{every_map}
use Rattle.state_record.specs.Record.{Placed}
use Rattle.step_transition.specs.Focus.{Focus, focuses, focuses_from, filter}
use Rattle.step_transition.specs.Moves.{others}
use Rattle.step_transition.proofs.Laws.MovesLists.{filter_append, filter_all}
use Rattle.step_transition.proofs.Laws.MovesFocuses.{Stands, spots_stand, left_of, right_of}
use Rattle.step_located.proofs.Laws.Everywhere.{every_mapped}

-- The focuses of two lists, one after the other.
abbrev followed : List Placed → Focus → Focus
followed ys q = record { before = q.before; thread = q.thread; behind = q.behind ++ ys }

abbrev preceded : List Placed → Focus → Focus
preceded ls q = record { before = ls ++ q.before; thread = q.thread; behind = q.behind }

spots_append : (ls xs ys : List Placed) → focuses_from ls (xs ++ ys) ≡ map (followed ys) (focuses_from ls xs) ++ focuses_from (ls ++ xs) ys
unfolding focuses_from
spots_append ls [] ys = ap (λ l. focuses_from l ys) (sym (append-nil ls))
spots_append ls (x ∷ xs) ys =
    let l = ls ++ (x ∷ []) in
    ap (λ r. record { before = ls; thread = x; behind = xs ++ ys } ∷ r)
    (spots_append l xs ys ∙ ap (λ m. map (followed ys) (focuses_from l xs) ++ focuses_from m ys) (append_assoc ls (x ∷ []) xs))

spots_preceded : (ls ms ys : List Placed) → focuses_from (ls ++ ms) ys ≡ map (preceded ls) (focuses_from ms ys)
unfolding focuses_from
spots_preceded ls ms [] = refl
spots_preceded ls ms (y ∷ ys) =
    ap (λ r. record { before = ls ++ ms; thread = y; behind = ys } ∷ r)
    (ap (λ l. focuses_from l ys) (append_assoc ls ms (y ∷ [])) ∙ spots_preceded ls (ms ++ (y ∷ [])) ys)

spots_around : (ps : List Placed) (p : Focus) → Stands ps p
    → focuses ps ≡ map (left_of p) (focuses p.before) ++ (p ∷ map (right_of p) (focuses p.behind))
unfolding focuses_from
spots_around ps p h =
    let l = p.before ++ (p.thread ∷ []) in
    ap focuses h.parts ∙ spots_append [] p.before (p.thread ∷ p.behind)
    ∙ ap (λ r. map (left_of p) (focuses p.before) ++ (p ∷ r))
    (ap (λ m. focuses_from m p.behind) (sym (append-nil l)) ∙ spots_preceded l [] p.behind)

-- A thread is another one if there are more threads before it, or fewer.
abbrev other : Focus → Focus → Bool
other p q = not (eqb (length q.before) (length p.before))

differs : (p q : Focus) → ¬ (length q.before ≡ length p.before) → other p q ≡ true
differs p q e = ap not (ne_eqb (length q.before) (length p.before) e)

left_differs : (p q : Focus) → Stands p.before q → other p (left_of p q) ≡ true
left_differs p q s =
    let size = ap length s.parts ∙ length-append q.before (q.thread ∷ q.behind) in
    differs p (left_of p q) (omega (arith, size))

right_differs : (p q : Focus) → other p (right_of p q) ≡ true
right_differs p q =
    let size = length-append (p.before ++ (p.thread ∷ [])) q.before in
    differs p (right_of p q) (omega (arith, size, length-append p.before (p.thread ∷ [])))

-- It is not another than itself.
filter_self : (p : Focus) (qs : List Focus) → filter (other p) (p ∷ qs) ≡ filter (other p) qs
unfolding filter
filter_self p qs =
    ap {B = List Focus} (λ b. elim (not b) [ true ↦ p ∷ filter (other p) qs | false ↦ filter (other p) qs ])
    (eq-eqb (length p.before) (length p.before) refl)

pub others_are : (ps : List Placed) (p : Focus) → Stands ps p
    → others p (focuses ps) ≡ map (left_of p) (focuses p.before) ++ map (right_of p) (focuses p.behind)
unfolding others
others_are ps p h =
    let ls = map (left_of p) (focuses p.before) in
    let rs = map (right_of p) (focuses p.behind) in
    ap (filter (other p)) (spots_around ps p h) ∙ filter_append (other p) ls (p ∷ rs)
    ∙ ap₂ ◌++◌ (filter_all (other p) (every_mapped (left_of p) (every_map (λ q s. left_differs p q s) (spots_stand p.before))))
    (filter_self p rs
    ∙ filter_all (other p) (every_mapped (right_of p) (every_map (λ q s. right_differs p q) (spots_stand p.behind))))
