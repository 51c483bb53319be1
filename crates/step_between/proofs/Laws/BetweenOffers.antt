-- The offers of a thread that meets no limit: what an output sends is short, and two bytes hold the private names after it ("Steps";
-- "Judging and its count").
use Prim.Native.Nat.{ℕ, ◌+◌, ◌≤◌, ◌<◌}
use native.Mathlib.Omega.{arith}
use mathlib.Core.Path.{◌≡◌}
use mathlib.Core.Bool.{true}
use mathlib.Core.List.{List}
use lib.ListN.{length}
use Rattle.meaning.specs.Messages.Term.{leaf, public}
use Rattle.meaning.specs.Places.{Every}
use Rattle.meaning.proofs.Every.{every_map}
use Rattle.state_record.specs.Record.{Placed, process_of, bound_of, Standing}
use Rattle.state_head.specs.News.{later_news}
use Rattle.state_head.proofs.Laws.Fits.{later_fewer}
use Rattle.step_located.specs.Located.{LocatedOffer}
use Rattle.step_located.specs.Sought.{wanted}
use Rattle.step_located.proofs.Laws.Located.{inside_bounds, acting_inside}
use Rattle.step_located.proofs.Laws.Everywhere.{every_and}
use Rattle.step_transition.specs.Focus.{offers_of}
use Rattle.step_transition.specs.Threads.{Judged}
use Rattle.step_transition.specs.CopyOffers.{outputs}
use Rattle.step_transition.proofs.Laws.Opened.{acting_all, judged_clear}
use Rattle.step_transition.proofs.Laws.Allowed.{acting_allowed, Sent, sent}
use Rattle.step_transition.proofs.Laws.Threads.{process_ends}
use Rattle.state_layout.proofs.Laws.Loaded.{news_short}
use Rattle.index_process.specs.Index.{ShortModel}

-- An output within the limits, copies being opened at k, in a model of so many bytes.
pub record Sending (k long : ℕ) (a : LocatedOffer) : Type 0 where
  pub within : a.place < long
  pub sent : Sent a
  pub later : k ≤ a.next
  pub small : a.next ≤ 28664

-- The process of a thread stands in the model, so it has few `new` nodes, and whatever acts in it stands there too.
pub sending_all : {s : List ℕ} {k : ℕ} (n : ℕ) (t : Placed) → Standing s t → Judged k t → ShortModel s → k ≤ 128
    → Every (λ a. wanted (outputs n) (leaf (public 0)) a ≡ true → Sending k (length s) a) (offers_of t k)
sending_all {s} {k} n t h j l m =
    let P = process_of t.thread in
    let ρ = bound_of t.thread in
    let ends = process_ends t h in
    let few : k + later_news P ≤ 28664 = omega (arith, later_fewer P, news_short P) in
    every_map (λ a (f, (acts, i)) w. record {
      within = omega (arith, inside_bounds a.place t.place P i);
      sent = sent n (leaf (public 0)) a f w;
      later = acts.later;
      small = omega (arith, acts.small);
    })
    (every_and (acting_allowed P t.place ρ 0 k (judged_clear t 0 j))
    (every_and (acting_all P t.place ρ 0 k) (acting_inside P t.place ρ 0 k)))
