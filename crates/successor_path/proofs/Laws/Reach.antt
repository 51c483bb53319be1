-- The private names that a process takes, and those of what follows an output or an input ("Steps"; "Judging and its count").
use Rattle.std.specs.Prelude.{Option, Some, None}
use mathlib.Core.Path.{◌≡◌, refl, sym, ◌∙◌}
use mathlib.Core.Bool.{true≢false}
use mathlib.Core.List.{List, [], ◌∷◌}
use Prim.Native.Nat.{ℕ, suc, ◌+◌, ◌-◌, ◌≤◌, ◌<◌}
use native.Mathlib.Omega.{arith}
use lib.ListN.{length, get_or, length-append}
use Rattle.meaning.specs.Messages.Term.{Message}
use Rattle.meaning.specs.Bytes.Process.{Prefix, output, input, Process}
use Rattle.meaning.specs.Steps.State.{Bound, ◌▸◌}
use Rattle.buffer.specs.Buffer.{Within}
use Rattle.message_term.specs.Bound.{BindsRun}
use Rattle.message_term.proofs.Theorems.{bound_further}
use Rattle.state_task.specs.Place.{Rests}
use Rattle.state_record.proofs.Laws.Process.{process_kind, after-output, after-input}
use Rattle.state_head.specs.News.{news}
use Rattle.state_head.specs.Head.{CanSettle}
use Rattle.state_head.specs.Count.{count_of, Counts}
use Rattle.state_head.proofs.Laws.Count.{counted_over, counted_names}
use Rattle.step_located.specs.Located.{LocatedOffer}
use Rattle.state_layout.specs.Loaded.{IsRunOf}
use Rattle.step_transition.specs.Outcome.{bound_after}
use Rattle.successor_path.specs.Reach.{Prepared, Takes, CountsRest}

-- One message more is bound.
pub longer : (ρ : Bound) (x : Message) → length (ρ ▸ x) ≡ suc (length ρ)
longer ρ x = omega (arith, length-append ρ (x ∷ []))

-- What is known of a process that is prepared is what settling it needs.
pub to_settle : {s m : List ℕ} {at left end n : ℕ} {P : Process} {ρ : Bound} → Prepared s at left m end P ρ → n + news P ≤ 32760 → CanSettle s at left m end n P ρ
to_settle y h = record { next = y.next; process = y.process; bound = y.bound; room = y.room; fits = h }

-- If no limit is met, the next private name is the one after those of the process.
module _ {s m : List ℕ} {at left end n : ℕ} {a : Option ℕ} (c : Counts s at left m end n a) where
  pub takes_names : {next : ℕ} → a ≡ Some next → Takes s at left m end n next
  takes_names is = record { exact = λ P ρ y f. (counted_names P ρ n (c.exact P ρ y) is).1 }

  pub takes_none : {next : ℕ} → a ≡ None → Takes s at left m end n next
  takes_none is = record { exact = λ P ρ y f. absurd (true≢false (sym (counted_over P ρ n (c.exact P ρ y) is) ∙ f)) }

pub ruleset takes = (takes_names, takes_none)

-- Nothing that could be counted stands there, for want of a node, of bytes or of room, or the label is none.
module _ {s argument m : List ℕ} {at left end n : ℕ} {r : Option ℕ} where
  none_there : ((a : LocatedOffer) (x : Message) → Prepared s at left m end (Process.act a.prefix a.rest) a.bound → IsRunOf argument x → ⊥)
      → CountsRest s argument at left m end n r
  none_there f = record { exact = λ a x y i h. absurd (f a x y i) }

  pub no_node : left ≡ 0 → CountsRest s argument at left m end n r
  no_node e = none_there λ a x y i. omega (arith, (process_kind (Process.act a.prefix a.rest) y.process).2)

  pub no_byte : length s ≤ at → CountsRest s argument at left m end n r
  no_byte e = none_there λ a x y i. omega (arith, (process_kind (Process.act a.prefix a.rest) y.process).1)

  pub no_room : length m - end < 4606 → CountsRest s argument at left m end n r
  no_room e = none_there λ a x y i. omega (arith, y.room)

  pub no_label : 510 < length argument → CountsRest s argument at left m end n r
  no_label e = none_there λ a x y i. omega (arith, i.small)

-- What follows an output is counted, and what follows an input, for which one message more is bound.
module _ {s argument m : List ℕ} {at left end n to kind : ℕ} {r : Option ℕ} (l : Rests s at to) (k : kind ≡ get_or s at 0) where
  pub rest_output : kind ≡ 2 → Counts s to (left - 1) m end n r → CountsRest s argument at left m end n r
  rest_output z f = record { exact = λ a x y i h. only a a.prefix refl x y h }
    where
      only : (a : LocatedOffer) (p : Prefix) → a.prefix ≡ p → (x : Message)
          → Prepared s at left m end (Process.act a.prefix a.rest) a.bound → n + news a.rest ≤ 32760
          → r ≡ count_of a.rest (bound_after x a) n
      only a (output C M) e x y h =
          let u = rw e at y in
          let there = l.exact (output C M) a.rest u.process.stands in
          rw e ((rw there at f).exact a.rest a.bound (record {
            next = u.next;
            process = after-output C M a.rest u.process;
            bound = u.bound;
            room = omega (arith, u.room);
            fits = h;
          }))
      only a (input C) e x y h = absurd (omega (arith, (process_kind (Process.act (input C) a.rest) (rw e at y).process).0))

  pub rest_input : (kind ≡ 2 → ⊥) → {m₁ : List ℕ} {last high : ℕ} → Counts s to (left - 1) m₁ last n r → BindsRun argument m end last m₁
      → Within end high m m₁ → last ≡ end + 2 + length argument → CountsRest s argument at left m end n r
  rest_input z {m₁} {last} f b w e₁ = record { exact = λ a x y i h. only a a.prefix refl x y i h }
    where
      only : (a : LocatedOffer) (p : Prefix) → a.prefix ≡ p → (x : Message)
          → Prepared s at left m end (Process.act a.prefix a.rest) a.bound → IsRunOf argument x → n + news a.rest ≤ 32760
          → r ≡ count_of a.rest (bound_after x a) n
      only a (output C M) e x y i h = absurd (z (k ∙ (process_kind (Process.act (output C M) a.rest) (rw e at y).process).0))
      only a (input C) e x y i h =
          let u = rw e at y in
          let there = l.exact (input C) a.rest u.process.stands in
          rw e ((rw there at f).exact a.rest (a.bound ▸ x) (record {
            next = u.next;
            process = rw (← longer a.bound x) at (after-input C a.rest u.process);
            bound =
                bound_further m m₁ 0 end last a.bound x u.bound i.normal (omega (arith, u.process.few)) (b.exact x i.same);
            room = omega (arith, u.room, i.small, w.long);
            fits = h;
          }))

pub ruleset rests_counted = (no_node, no_byte, no_room, no_label, rest_output, rest_input)
