-- The limits that an outcome is over, from those that its settled rests are over ("Judging and its count").
use Prim.Native.Nat.{ℕ, ◌+◌, ◌≤◌}
use native.Mathlib.Omega.{arith}
use native.Mathlib.Nat.{le_refl}
use mathlib.Core.Path.{◌≡◌, refl, sym, ◌∙◌, ap, ap₂}
use mathlib.Core.Bool.{Bool, true, false, ◌||◌, or-true}
use mathlib.Core.List.{List, [], ◌∷◌, ◌++◌}
use lib.Dec.{ltb}
use lib.ListN.{length, length-map}
use borrow.Author.Tests.{ltb-false}
use Rattle.meaning.specs.Messages.Term.{Message, nodes}
use Rattle.meaning.specs.Bytes.Process.{Prefix, output, input, Process}
use Rattle.meaning.specs.Places.{Every, none, ◌also◌}
use Rattle.meaning.specs.Steps.State.{Bound, ◌▸◌, Thread, act, repl, names, settle, State}
use Rattle.meaning.specs.Steps.Invariant.{Stored, BoundStored}
use Rattle.meaning.specs.Logic.Truth.{any_of}
use Rattle.meaning.specs.Judging.Limits.{over_settling, over_prefix, over_offers, over_state, bound_nodes, thread_nodes}
use Rattle.meaning.proofs.Test.{neither, passes_none, any_append}
use Rattle.meaning.proofs.Every.{every_map, every_joined}
use Rattle.meaning.proofs.Steps.Invariant.Settling.{bound_later, threads_later, worked_below, settled_below}
use Rattle.state_record.specs.Record.{Placed, bound_of}
use Rattle.state_head.specs.Settled.{settled_at, threads_of}
use Rattle.state_record.specs.Place.{rest_at}
use Rattle.state_layout.specs.Layout.{over_arrival}
use Rattle.state_head.proofs.Laws.Counting.{any_map}
use Rattle.state_head.proofs.Laws.Settling.{settled_threads}
use Rattle.step_located.specs.Located.{LocatedOffer, prefixed}
use Rattle.step_located.specs.CopyStep.{Pair, message_of}
use Rattle.step_located.proofs.Laws.Everywhere.{every_and}
use Rattle.step_located.proofs.Laws.Traversal.{any_later}
use Rattle.step_transition.specs.Outcome.{Outcome, bound_after, alias_of, sent_by, last_of, sender_rest, taker_rest, met_outcome, arrival_of}
use Rattle.step_transition.specs.Limits.{pair_over, full, Goes}
use Rattle.state_layout.specs.Loaded.{BoundSmall}
use Rattle.step_transition.proofs.Laws.LimitsLeft.{any_over, AllStored, AllSmall, Left, settled_stored, rest_small}
use Rattle.step_transition.proofs.Laws.LimitsPairs.{sent_small, PairOpens}

-- An outcome, k being the next private name before the step and x the message of an input; r says whether settling or some thread of it
-- meets a limit.
pub record OutcomeLimits (k : ℕ) (x : Message) (o : Outcome) (r : Bool) : Type 0 where
  pub later : k ≤ o.next
  pub over : (o.large || any_over o.next o.threads) ≡ r
  pub stored : AllStored o.next o.threads
  pub alias : BoundStored o.next o.alias
  pub small : nodes x ≤ 255 → o.large ≡ false → AllSmall o.threads
  pub alias_small : BoundSmall o.alias

-- Then the state is over these limits, or has too much in it.
shuffled : (l a b c d : Bool) → (l || (a || b || c || d)) ≡ (l || d || (a || c) || b)
shuffled true a b c d = refl
shuffled false true b c true = refl
shuffled false true b c false = refl
shuffled false false b c true = or-true (b || c)
shuffled false false true c false = sym (or-true c)
shuffled false false false c false = refl

threads_over : (j : ℕ) (ps : List Placed) → any_of (λ t. over_offers t j) (threads_of ps) ≡ any_over j ps
threads_over j ps = any_map (λ t. over_offers t j) (λ t. t.thread) ps

pub follows_limits : (S : State) {x : Message} {o : Outcome} {r : Bool} → OutcomeLimits S.next x o r
    → over_arrival (arrival_of S o) ≡ (r || full S o || ltb 128 o.next)
unfolding over_state
follows_limits S {x} {o} {r} f =
    rw (threads_over o.next o.threads, length-map o.threads (λ t. t.thread))
    (shuffled o.large (ltb 32 (length o.threads)) (ltb 128 o.next)
    (ltb 1024 (thread_nodes (threads_of o.threads) + bound_nodes (S.aliases ++ o.alias))) (any_over o.next o.threads)
    ∙ ap (λ b. b || full S o || ltb 128 o.next) f.over)

-- Each thread has no more nodes than all together.
pub first_nodes : (t : Thread) (ts : List Thread) → thread_nodes (t ∷ ts) ≡ bound_nodes (bound_of t) + thread_nodes ts
unfolding thread_nodes
first_nodes (act ρ p P) ts = refl
first_nodes (repl ρ P) ts = refl

pub light : (ps : List Placed) → Every (λ t. bound_nodes (bound_of t.thread) ≤ thread_nodes (threads_of ps)) ps
light [] = none
light (t ∷ ps) =
    let e = first_nodes t.thread (threads_of ps) in
    let first : bound_nodes (bound_of t.thread) ≤ thread_nodes (t.thread ∷ threads_of ps) = omega (arith, e) in
    first also every_map (λ u l. omega (arith, e, l)) (light ps)

pub follows_goes : (S : State) {x : Message} {o : Outcome} {r : Bool} → OutcomeLimits S.next x o r → nodes x ≤ 255 → Goes S o
unfolding over_state
follows_goes S {x} {o} {r} f x-small = record {
  later = f.later;
  judged = λ free.
      let ts = threads_of o.threads in
      let n = thread_nodes ts + bound_nodes (S.aliases ++ o.alias) in
      let (settling, within) = neither o.large _ free in
      let (counts, offers) = neither (ltb 32 (length ts) || ltb 128 o.next || ltb 1024 n) _ within in
      let few = ltb-false 1024 n (neither (ltb 32 (length ts) || ltb 128 o.next) _ counts).1 in
      every_map (λ t (g, h). record { free = g; stored = h.0; light = omega (arith, h.1.0, few); small = h.1.1 })
      (every_and (passes_none _ o.threads (sym (threads_over o.next o.threads) ∙ offers))
      (every_and f.stored (every_and (light o.threads) (f.small x-small settling))));
  aliases = λ b. every_joined (bound_later f.later b) f.alias;
  small = λ b. every_joined b f.alias_small;
}

-- A settled rest meets the limits of its threads, at whatever later name.
pub settled_over : (P : Process) (at : ℕ) (ρ : Bound) (n j : ℕ) → any_over j (settled_at P at ρ n) ≡ any_of (λ t. over_offers t j) (settle P ρ n)
settled_over P at ρ n j =
    sym (threads_over j (settled_at P at ρ n)) ∙ ap (λ ts. any_of (λ t. over_offers t j) ts) (settled_threads P at ρ n)

-- The messages that the rest of a thread is settled under, and the new alias.
pub bound-after : {k m : ℕ} (x : Message) (a : LocatedOffer) → k ≤ m → Stored k x → BoundStored m a.bound → BoundStored m (bound_after x a)
bound-after {k} {m} x a le s b = of a.prefix
  where
    of : (p : Prefix) → BoundStored m (bound_after x (prefixed a p))
    of (output C M) = b
    of (input C) = every_joined b (bound_later le (s also none))

pub alias_after : {m : ℕ} (a : LocatedOffer) → BoundStored m a.bound → BoundStored m (alias_of a)
alias_after {m} a b = of a.prefix
  where
    of : (p : Prefix) → BoundStored m (alias_of (prefixed a p))
    of (output C M) = worked_below b M none
    of (input C) = none

pub bound_small : (x : Message) (a : LocatedOffer) → nodes x ≤ 255 → BoundSmall a.bound → BoundSmall (bound_after x a)
bound_small x a s b = of a.prefix
  where
    of : (p : Prefix) → BoundSmall (bound_after x (prefixed a p))
    of (output C M) = b
    of (input C) = every_joined b (s also none)

pub alias_small : (a : LocatedOffer) → over_prefix a.bound a.prefix a.rest a.next ≡ false → BoundSmall (alias_of a)
alias_small a = of a.prefix
  where
    of : (p : Prefix) → over_prefix a.bound p a.rest a.next ≡ false → BoundSmall (alias_of (prefixed a p))
    of (output C M) e = sent_small a.bound (output C M) a.rest a.next e also none
    of (input C) e = none

-- A pair: the rest of the sender is settled first.
crossed : (a b c d : Bool) → (a || b || (c || d)) ≡ (a || c || (b || d))
crossed true b c d = refl
crossed false true true d = refl
crossed false true false d = refl
crossed false false c d = refl

pub met_follows : {k : ℕ} {x : Message} (w : Pair) (ts : List Placed) → PairOpens k w
    → ((j : ℕ) → w.taker.next ≤ j → Left j (sender_rest w ++ taker_rest w) ts) → OutcomeLimits k x (met_outcome w ts) (pair_over w)
met_follows {k} w ts o left =
    let P = w.sender.rest in
    let Q = w.taker.rest in
    let ρ = w.sender.bound in
    let τ = w.taker.bound ▸ sent_by w in
    let m = w.taker.next in
    let n = last_of w in
    let j = names Q τ n in
    let here = rest_at w.sender.place w.sender.prefix in
    let there = rest_at w.taker.place w.taker.prefix in
    let (later, threads) = settled_below P o.sender in
    let bound = worked_below (bound_later later o.sender) (message_of w.sender.prefix) (bound_later later o.taker) in
    let (later', threads') = settled_below Q bound in
    let l = left j (omega arith) in
    record {
      later = omega (arith, o.later);
      over =
          ap (λ b. over_settling P ρ m || over_settling Q τ n || b)
          (l.over ∙ any_append _ (sender_rest w) (taker_rest w)
          ∙ ap₂ ◌||◌ (settled_over P here ρ m j ∙ any_later j n later' (le_refl n) threads) (settled_over Q there τ n j))
          ∙ crossed (over_settling P ρ m) (over_settling Q τ n) _ _;
      stored = l.stored (every_joined (settled_stored P here ρ m (threads_later later' threads)) (settled_stored Q there τ n threads'));
      alias = none;
      small = λ s e.
          let (first, second) = neither (over_settling P ρ m) _ e in
          l.small (every_joined (rest_small P here ρ m first o.sender_small) (rest_small Q there τ n second o.taker_small));
      alias_small = none;
    }
