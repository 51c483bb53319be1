-- An offer of a thread, in its copies if need be, stands in the model, and so does what follows it ("Steps").
use mathlib.Core.Path.{◌≡◌}
use mathlib.Core.List.{List, ◌∷◌, ◌++◌}
use Prim.Native.Nat.{ℕ, ◌+◌, ◌-◌}
use native.Mathlib.Omega.{arith}
use lib.Dec.{eqb}
use Rattle.meaning.specs.Bytes.Process.{Prefix, output, input, Process}
use Rattle.meaning.specs.Places.{Every}
use Rattle.meaning.specs.Steps.State.{names}
use Rattle.meaning.proofs.Every.{every_map}
use Rattle.state_record.specs.Place.{ProcessAt, rest_at}
use Rattle.state_record.specs.Record.{Placed, process_of, bound_of}
use Rattle.state_record.proofs.Laws.Process.{after-output, after-input, of_repl}
use Rattle.state_task.specs.declared.task.CopyAt.{CopyAt}
use Rattle.step_located.specs.Located.{LocatedOffer}
use Rattle.step_located.specs.Sought.{Opened, offers_except}
use Rattle.step_transition.specs.Focus.{offers_of, copies_of}
use Rattle.step_transition.specs.CopyOffers.{ThreadAt, copy_offers}
use Rattle.successor_path.specs.Reach.{Down, offer_site, copy_site}
use Rattle.successor_path.proofs.Laws.ReachDown.{offers_down, copies_down, down_process}
use Rattle.successor_continuation.specs.Settled.{OfferAt}
use Rattle.successor_continuation.proofs.Laws.Counting.{listed_one, chosen, some_offers}

-- What follows an output or an input that stands in a model stands there too.
pub rest_standing : {s : List ℕ} {at left scope next : ℕ} (p : Prefix) (P : Process) → ProcessAt s at left scope (Process.act p P) next
    → (inner : ℕ) × ProcessAt s (rest_at at p) (left - 1) inner P next
rest_standing (output C M) P p = (_, after-output C M P p)
rest_standing (input C) P p = (_, after-input C P p)

-- An offer of a thread is a process that the thread comes to, and stands in the model.
pub offer_standing : {s out m : List ℕ} {at j to k : ℕ} (t : Placed) (before behind : List LocatedOffer) (a : LocatedOffer) → ThreadAt s out m at j to t
    → offers_of t k ≡ before ++ (a ∷ behind)
    → (i : ℕ) × Down (process_of t.thread) t.place (bound_of t.thread) 0 k (offer_site a i) × OfferAt s a
offer_standing {k = k} t before behind a h listed =
    let (i, d) = listed_one before a behind listed (offers_down (process_of t.thread) t.place (bound_of t.thread) 0 k) in
    let (next, p) = down_process (offer_site a i) d h.recorded.standing.process in
    (i, d, record { left = 64; next = next; shallow = omega arith; process = p })

-- An offer of a copy is a process that the copy comes to, and stands in the model with it.
abbrev InCopy : Opened → LocatedOffer → Type 0
InCopy w a = (i n k : ℕ) × Down w.copied (w.place + 1) w.bound n k (offer_site a i)

copy_offers_down : (excluded : ℕ) (c : CopyAt) (w : Opened) → Every (InCopy w) (copy_offers excluded c w)
unfolding copy_offers
copy_offers_down excluded c w =
    chosen (eqb c.arity 0) (from w.opens (names w.copied w.bound w.opens))
    (chosen (eqb c.arity 1) (from w.opens c.second) (from c.second (names w.copied w.bound c.second)))
  where
    from : (n k : ℕ) → Every (InCopy w) (offers_except excluded w.copied (w.place + 1) w.bound n k)
    from n k =
        some_offers excluded w.copied (w.place + 1) w.bound n k
        (every_map (λ a (i, d). (i, n, k, d)) (offers_down w.copied (w.place + 1) w.bound n k))

pub copy_standing : {s out m : List ℕ} {at k to : ℕ} (c : CopyAt) (t : Placed) (pre post : List Opened) (w : Opened) (before behind : List LocatedOffer)
    (a : LocatedOffer) → ThreadAt s out m at k to t → copies_of t k ≡ pre ++ (w ∷ post) → (excluded : ℕ) → copy_offers excluded c w ≡ before ++ (a ∷ behind)
    → OfferAt s a
copy_standing {k = k} c t pre post w before behind a h copied excluded listed =
    let (j, e) = listed_one pre w post copied (copies_down (process_of t.thread) t.place (bound_of t.thread) 0 k) in
    let (to, y) = down_process (copy_site w j) e h.recorded.standing.process in
    let (i, n, o, d) = listed_one before a behind listed (copy_offers_down excluded c w) in
    let (next, p) = down_process (offer_site a i) d (of_repl w.copied y) in
    record { left = 63; next = next; shallow = omega arith; process = p }
