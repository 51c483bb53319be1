-- Lists in the place of one thread of a state, or of two, the others of which meet no limit ("Judging and its count").
use Prim.Native.Nat.{ℕ}
use mathlib.Core.List.{List, ◌++◌}
use Rattle.meaning.proofs.Every.{every_split}
use Rattle.state_record.specs.Record.{Placed}
use Rattle.step_located.proofs.Laws.Copies.{split_at}
use Rattle.step_transition.specs.Focus.{Focus, focuses}
use Rattle.step_transition.specs.Outcome.{exchanged, both_exchanged}
use Rattle.step_transition.proofs.Laws.MovesFocuses.{Stands, left_of, right_of, exchanged_is, exchanged_left, exchanged_right}
use Rattle.step_transition.proofs.Laws.LimitsLeft.{Clear, AllClear, Left, left_joined, left_swapped, left_behind, left_before}

-- The threads before one, the thread itself, and those behind it.
pub clear_parts : {j : ℕ} {ps : List Placed} (p : Focus) → Stands ps p → AllClear j ps
    → AllClear j p.before × Clear j p.thread.thread × AllClear j p.behind
clear_parts p h c = every_split (split_at p.before h.parts) c

-- One thread is exchanged, or two.
abbrev pub Put : ℕ → List Focus → Focus → Type 0
Put j rs p = (z y : List Placed) → Left j y z → Left j y (exchanged p z rs)

abbrev pub PutBoth : ℕ → List Focus → Focus → Focus → Type 0
PutBoth j rs p q = (z z' y y' : List Placed) → Left j z' z → Left j y' y → Left j (z' ++ y') (both_exchanged p z q y rs)

module _ {j : ℕ} {ps : List Placed} (p : Focus) (h : Stands ps p) (c : AllClear j ps) where
  pub put_one : Put j (focuses ps) p
  put_one z y l =
      let (before, own, behind) = clear_parts p h c in
      rw (exchanged_is ps p z h) (left_before before (left_behind behind l))

  pub put_left : (q : Focus) → Stands p.before q → PutBoth j (focuses ps) p (left_of p q)
  put_left q s z z' y y' l l' =
      let (before, own, behind) = clear_parts p h c in
      let (first, other, rest) = clear_parts q s before in
      rw (exchanged_left ps p h z q y s)
      (left_swapped y' z' (left_joined (left_before first (left_behind rest l')) (left_behind behind l)))

  pub put_right : (q : Focus) → Stands p.behind q → PutBoth j (focuses ps) p (right_of p q)
  put_right q s z z' y y' l l' =
      let (before, own, behind) = clear_parts p h c in
      let (first, other, rest) = clear_parts q s behind in
      rw (exchanged_right ps p h z q y s) (left_before before (left_joined l (left_before first (left_behind rest l'))))
