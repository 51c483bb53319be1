-- Offers among the threads of a list, from one of them on ("Steps").
use Prim.Native.Nat.{ℕ, ◌+◌}
use mathlib.Core.Path.{◌≡◌, refl, sym, ◌∙◌, ap, subst}
use mathlib.Core.Logic.{◌⊎◌, inl, inr}
use mathlib.Core.Bool.{true}
use mathlib.Core.List.{List, [], ◌∷◌, ◌++◌, map, append_assoc}
use Rattle.meaning.specs.Messages.Term.{Message}
use Rattle.meaning.specs.Places.{Every, none, ◌also◌}
use Rattle.meaning.specs.Steps.Offer.{Split}
use Rattle.meaning.proofs.Every.{every_joined}
use Rattle.state_record.specs.Record.{Placed}
use Rattle.state_task.specs.declared.task.Quest.{Quest}
use Rattle.step_located.specs.Located.{LocatedOffer}
use Rattle.step_located.specs.Sought.{wanted}
use Rattle.step_located.proofs.Laws.Increasing.{Increasing}
use Rattle.step_located.proofs.Laws.Everywhere.{every_mapped}
use Rattle.step_located.proofs.Laws.Copies.{split_none, split_joined}
use Rattle.step_transition.specs.Focus.{Focus, focuses_from, filter}
use Rattle.step_transition.specs.CopyMoves.{later_focuses}
use Rattle.step_transition.proofs.Laws.SplitLists.{split_map, since, resumed}
use Rattle.step_transition.proofs.Laws.MovesLists.{every_filter}
use Rattle.step_between.specs.Between.{Party, parties_from}

-- What is left from a party on, and behind it.
pub record Resumes (q : Quest) (x : Message) (f : Focus → List LocatedOffer) (ps : List Placed) (w : Party) (others : List Party) : Type 0 where
  pub parts : ps ≡ w.focus.before ++ (w.focus.thread ∷ w.focus.behind)
  pub again : parties_from (since w.offer.place q) x f (w.focus ∷ later_focuses w.focus) ≡ w ∷ others
  pub on : parties_from (since (w.offer.place + 1) q) x f (w.focus ∷ later_focuses w.focus) ≡ others

abbrev pub party : Focus → LocatedOffer → Party
party p a = record { focus = p; offer = a }

module _ (q : Quest) (x : Message) (f : Focus → List LocatedOffer) where
  pub parties_resumed : ((p : Focus) → Increasing 0 (f p)) → (n : ℕ) (ls ts : List Placed) {before others : List Party} {w : Party}
      → Split (parties_from (since n q) x f (focuses_from ls ts)) before w others → Resumes q x f (ls ++ ts) w others
  unfolding parties_from focuses_from
  parties_resumed up n ls [] s = absurd (split_none s)
  parties_resumed up n ls (t ∷ ts) {before} {others} {w} s =
      of (λ front s. parties_resumed up 0 (ls ++ (t ∷ [])) ts s) (split_joined (map (party p) here) s)
    where
      p : Focus
      p = record { before = ls; thread = t; behind = ts }

      here : List LocatedOffer
      here = filter (wanted (since n q) x) (f p)

      behind : List Party
      behind = parties_from (since 0 q) x f (focuses_from (ls ++ (t ∷ [])) ts)

      of : ((front : List Party) → Split behind front w others → Resumes q x f ((ls ++ (t ∷ [])) ++ ts) w others)
          → ((rest : List Party) × Split (map (party p) here) before w rest × (others ≡ rest ++ behind))
          ⊎ ((front : List Party) × Split behind front w others)
          → Resumes q x f (ls ++ (t ∷ ts)) w others
      of go (inl (rest, s, o)) =
          let (front, a, back, c, is, e) = split_map (party p) here s in
          let (again, on) = resumed q x n (up p) c in
          let left : map (party p) back ++ behind ≡ others = ap (λ r. r ++ behind) (sym e) ∙ sym o in
          subst (λ v. Resumes q x f (ls ++ (t ∷ ts)) v others) (sym is) (record {
            parts = refl;
            again = ap (λ r. map (party p) r ++ behind) again ∙ ap (λ r. party p a ∷ r) left;
            on = ap (λ r. map (party p) r ++ behind) on ∙ left;
          })
      of go (inr (front, s)) =
          let r = go front s in
          record { parts = sym (append_assoc ls (t ∷ []) ts) ∙ r.parts; again = r.again; on = r.on }

  -- What holds of every offer that is wanted holds of every party.
  pub parties_all : {Q : Focus → Type 0} {R : Party → Type 0}
      → ((n : ℕ) (p : Focus) → Q p → Every (λ a. wanted (since n q) x a ≡ true → R (party p a)) (f p)) → (n : ℕ) (ps : List Focus) → Every Q ps
      → Every R (parties_from (since n q) x f ps)
  unfolding parties_from
  parties_all h n [] none = none
  parties_all h n (p ∷ ps) (s also ss) =
      every_joined (every_mapped (party p) (every_filter (wanted (since n q) x) (h n p s))) (parties_all h 0 ps ss)
