-- The way down to the process at a mark, through each kind of process ("Steps").
use Rattle.std.specs.Prelude.{Option, Some, None}
use mathlib.Core.Path.{◌≡◌, refl, sym, ◌∙◌}
use mathlib.Core.Bool.{Bool, true, false, true≢false}
use mathlib.Core.List.{List, [], ◌∷◌, ◌++◌, append-nil}
use Prim.Native.Nat.{ℕ, suc, ◌+◌, ◌-◌, ◌≤◌, ◌<◌}
use native.Mathlib.Omega.{arith}
use lib.ListN.{length}
use Rattle.meaning.specs.Messages.Term.{Term, Message, leaf, private}
use Rattle.meaning.specs.Messages.Equation.{Normal}
use Rattle.meaning.specs.Messages.Normal.{normal}
use Rattle.meaning.specs.Bytes.Process.{Process, new, if, let_in, par, repl}
use Rattle.meaning.specs.Bytes.Encoding.{encode_term}
use Rattle.meaning.specs.Bytes.Nesting.{variables}
use Rattle.meaning.specs.Bytes.Standing.{Stands}
use Rattle.meaning.specs.Steps.State.{Bound, ◌▸◌, written, worked, names}
use Rattle.meaning.proofs.Messages.{normal_forms}
use Rattle.meaning.proofs.Bytes.Reading.Place.{◌⨾◌}
use Rattle.buffer.specs.Buffer.{Within}
use Rattle.buffer.proofs.Laws.Buffer.{unchanged}
use Rattle.index_process.specs.Index.{InModel, Ends}
use Rattle.decode_layout.specs.Ends.{TermsEnd}
use Rattle.message_term.specs.Bound.{Binds}
use Rattle.message_term.specs.Work.{BindWorked}
use Rattle.message_term.specs.declared.work.Worked.{Worked}
use Rattle.message_term.proofs.Laws.Work.{said_over, said_small}
use Rattle.message_term.proofs.Theorems.{bound_further}
use Rattle.state_record.specs.Place.{ProcessAt, then_at, else_at, body_at, right_at}
use Rattle.state_task.specs.Place.{Contains}
use Rattle.state_record.proofs.Laws.Process.{in_model, Shape, shaped, of_new, of_if, of_let, of_par, of_repl}
use Rattle.state_task.proofs.Laws.Bound.{bound_at, bound_still}
use Rattle.step_located.specs.Located.{inside}
use Rattle.step_located.proofs.Laws.Located.{inside_bounds, left_only}
use Rattle.step_located.proofs.Laws.Marks.{holds_inside}
use Rattle.successor_path.specs.Reach.{Site, Down, here, made, then, else, body, leftward, rightward, copied, Prepared, Allowed, Takes}
use Rattle.successor_path.specs.Reach.{Leads, LeadsPastIf, LeadsPastAny, NewLeadsPast, IfLeadsPast}
use Rattle.successor_path.specs.declared.reach.Way.{Way}
use Rattle.successor_path.proofs.Laws.Reach.{longer, to_settle}
use Rattle.successor_path.proofs.Laws.ReachDown.{down_inside, allowed_new, allowed_then, allowed_else, allowed_let, allowed_par}
use Rattle.successor_path.proofs.Laws.ReachDown.{allowed_copy}

-- The mark is in a process in which it is known to be, and in no other.
mark_held : {s : List ℕ} {at mark next : ℕ} {b : Bool} (w : Site) (P : Process) → Contains s at mark b → InModel s at P next
    → mark ≡ w.place + 1 → inside w.place at P ≡ b
mark_held {at} w P h p e = sym (h.exact P p ∙ rw e (holds_inside w.place at P))

-- What is prepared for a process is for a part of it, and for one under one message more.
module _ {s m m₁ : List ℕ} {at left end next to : ℕ} {ρ : Bound} where
  pub prepared_part : {P : Process} {high : ℕ} (Q : Process) → Prepared s at left m end P ρ → variables Q ≤ variables P
      → ProcessAt s next (left - 1) (length ρ) Q to → Within end high m m₁ → Prepared s next (left - 1) m₁ end Q ρ
  prepared_part Q y v p k = record {
    next = to;
    process = p;
    bound = bound_still y.bound k;
    room = omega (arith, y.room, k.long);
  }

  prepared_bound : {P : Process} {last : ℕ} (Q : Process) (z : Message) → Prepared s at left m end P ρ → variables P ≡ 1 + variables Q
      → ProcessAt s next (left - 1) (suc (length ρ)) Q to → Normal z → Binds m end z last m₁ → length m₁ ≡ length m → last ≤ end + 512
      → Prepared s next (left - 1) m₁ last Q (ρ ▸ z)
  prepared_bound {P} {last} Q z y v p n b l e = record {
    next = to;
    process = rw (← longer ρ z) at p;
    bound = bound_further m m₁ 0 end last ρ z y.bound n (omega (arith, y.process.few)) b;
    room = omega (arith, y.room);
  }

-- What is to be known of a process where the way f has come to, if the mark is not its own; and only if it is of the kind.
abbrev Passing : (s m : List ℕ) (f : Way) (mark : ℕ) (r : Way) (after : List ℕ) → Process → Type 0
Passing s m f mark r after P =
    (ρ : Bound) (w : Site) → Prepared s f.at f.left m f.end P ρ → Allowed P ρ f.names f.opens
    → Down P f.at ρ f.names f.opens w → mark ≡ w.place + 1 → (f.at + 1 ≡ mark → ⊥) → Leads s after r w

passes_if : {s m after : List ℕ} {f r : Way} {mark : ℕ} (kind : ℕ) → ((P : Process) → Shape kind P → Passing s m f mark r after P)
    → LeadsPastIf kind s m f mark r after
passes_if kind h = record {
  exact = λ c. record {
    exact = λ o. record {
      exact = λ w l e. h l.process (shaped kind l.process l.prepared.process c) l.bound w l.prepared l.allowed l.down e o;
    };
  };
}

-- New.
module _ {m : List ℕ} {f : Way} where
  pub new_over : {r : Way} {after : List ℕ} → 32759 < f.names → NewLeadsPast m f r after
  new_over h = record {
    exact = λ s. record { exact = λ mark. passes_if 1 λ P (Q, e) ρ w y a. absurd (omega (arith, (rw e at a).own)) };
  }

  pub new_passed : {m₁ : List ℕ} {last : ℕ} → Binds m f.end (leaf (private f.names)) last m₁ → Within f.end (f.end + 4) m m₁
      → last ≡ f.end + 4
      → NewLeadsPast m f (record { at = f.at + 1; left = f.left - 1; end = last; names = f.names + 1; opens = f.opens }) m₁
  unfolding normal
  new_passed {m₁} {last} b h l = record { exact = λ s. record { exact = λ mark. passes_if 1 λ P (Q, e). rw e (one Q) } }
    where
      one : {s : List ℕ} {mark : ℕ} (P : Process) →
          Passing s m f mark (record { at = f.at + 1; left = f.left - 1; end = last; names = f.names + 1; opens = f.opens }) m₁ (new P)
      one P ρ w y a here e o = absurd (o (omega arith))
      one P ρ w y a (made d) e o =
          let x = leaf (private f.names) in
          let next : f.names + 1 ≡ suc f.names = omega arith in
          rw next (record {
            process = P;
            bound = ρ ▸ x;
            prepared = prepared_bound P x y refl (of_new P y.process) (normal_forms x).0 b h.long (omega arith);
            allowed = allowed_new P a;
            down = d;
          })

pub ruleset news_passed = (new_over, new_passed)

-- Where the first branch of an if stands.
first_there : {s : List ℕ} {at left first : ℕ} → TermsEnd s (at + 1) 2 first → (M N : Term) (P Q : Process) {scope next : ℕ}
    → ProcessAt s at left scope (if M N P Q) next → first ≡ then_at at M N
first_there {s} {at} t M N P Q p =
    let (a, b, c, d) = of_if M N P Q p in
    let last : Stands s (body_at at M) (encode_term N ++ []) (then_at at M N) = rw append-nil b.stands in
    let both : Stands s (at + 1) (encode_term M ++ (encode_term N ++ [])) (then_at at M N) = a.stands ⨾ last in
    t.same (record { trees = M ∷ N ∷ []; many = refl; there = both })

-- If: the branch that has the mark in it is the one that is taken.
module _ {s : List ℕ} {f : Way} {mark first : ℕ} (t : TermsEnd s (f.at + 1) 2 first) where
  pub then_passed : {b : Bool} → Contains s first mark b → b ≡ true
      → IfLeadsPast s f mark (record { at = first; left = f.left - 1; end = f.end; names = f.names; opens = f.opens })
  then_passed {b} h is = record { exact = λ m. passes_if 4 λ P (M, N, Q, R, e). rw e (one M N Q R) }
    where
      one : {m : List ℕ} (M N : Term) (P Q : Process)
          → Passing s m f mark (record { at = first; left = f.left - 1; end = f.end; names = f.names; opens = f.opens }) m (if M N P Q)
      one M N P Q ρ w y a here e o = absurd (o (omega arith))
      one M N P Q ρ w y a (then z d) e o =
          let (i, j, p, q) = of_if M N P Q y.process in
          rw (first_there t M N P Q y.process) (record {
            process = P;
            bound = ρ;
            prepared = prepared_part P y (omega arith) p (unchanged {low = f.end} {high = f.end});
            allowed = allowed_then M N P Q z a;
            down = d;
          })
      one M N P Q ρ w y a (else z d) e o =
          let (i, j, p, q) = of_if M N P Q y.process in
          let there = first_there t M N P Q y.process in
          let inner : inside w.place (then_at f.at M N) P ≡ true = mark_held w P (rw there at h) (in_model p) e ∙ is in
          let (low, high) = inside_bounds w.place (then_at f.at M N) P inner in
          let (low', high') = inside_bounds w.place (else_at f.at M N P) Q (down_inside w d) in
          absurd (omega arith)

  pub else_passed : {b : Bool} {second : ℕ} → Contains s first mark b → b ≡ false → Ends s first second
      → IfLeadsPast s f mark (record { at = second; left = f.left - 1; end = f.end; names = f.names; opens = f.opens })
  else_passed {b} {second} h is l = record { exact = λ m. passes_if 4 λ P (M, N, Q, R, e). rw e (one M N Q R) }
    where
      one : {m : List ℕ} (M N : Term) (P Q : Process)
          → Passing s m f mark (record { at = second; left = f.left - 1; end = f.end; names = f.names; opens = f.opens }) m (if M N P Q)
      one M N P Q ρ w y a here e o = absurd (o (omega arith))
      one M N P Q ρ w y a (then z d) e o =
          let (i, j, p, q) = of_if M N P Q y.process in
          let there = first_there t M N P Q y.process in
          let outer : inside w.place (then_at f.at M N) P ≡ false = mark_held w P (rw there at h) (in_model p) e ∙ is in
          absurd (true≢false (sym (down_inside w d) ∙ outer))
      one M N P Q ρ w y a (else z d) e o =
          let (i, j, p, q) = of_if M N P Q y.process in
          let there = first_there t M N P Q y.process in
          let behind : second ≡ else_at f.at M N P = (rw there at l).same P (in_model p) in
          rw behind (record {
            process = Q;
            bound = ρ;
            prepared = prepared_part Q y (omega arith) q (unchanged {low = f.end} {high = f.end});
            allowed = allowed_else M N P Q z a;
            down = d;
          })

pub ruleset ifs_passed = (then_passed, else_passed)

-- Let.
module _ {s m m₁ : List ℕ} {f : Way} {t : Option Worked} (b : BindWorked s (f.at + 1) m 0 f.end t m₁) where
  pub let_over : {r : Way} {after : List ℕ} → t ≡ None → LeadsPastAny 5 s m f r after
  let_over is = record {
    exact = λ mark. passes_if 5 λ P (M, Q, e) ρ w y a.
        let (i, p) = of_let M Q (rw e at y).process in
        let (small, rest) = allowed_let M Q (rw e at a) in
        absurd (true≢false (sym (said_over _ _ _ (b.answer M ρ i (bound_at y.bound)) is) ∙ small));
  }

  pub let_passed : {x : Worked} → t ≡ Some x → Within f.end (f.end + 4098) m m₁ → x.end ≤ f.end + 2 + 510
      → LeadsPastAny 5 s m f (record { at = x.next; left = f.left - 1; end = x.end; names = f.names; opens = f.opens }) m₁
  let_passed {x} is h l = record { exact = λ mark. passes_if 5 λ P (M, Q, e). rw e (one M Q) }
    where
      one : {mark : ℕ} (M : Term) (P : Process)
          → Passing s m f mark (record { at = x.next; left = f.left - 1; end = x.end; names = f.names; opens = f.opens }) m₁ (let_in M P)
      one M P ρ w y a here e o = absurd (o (omega arith))
      one M P ρ w y a (body d) e o =
          let (i, p) = of_let M P y.process in
          let (small, there, ends) = said_small _ _ _ (b.answer M ρ i (bound_at y.bound)) is in
          let run = b.run M ρ i (bound_at y.bound) small in
          rw there (record {
            process = P;
            bound = ρ ▸ worked ρ M;
            prepared = prepared_bound P (worked ρ M) y refl p (normal_forms (written ρ M)).0 (rw (← ends) at run) h.long (omega arith);
            allowed = (allowed_let M P a).1;
            down = d;
          })

pub ruleset lets_passed = (let_over, let_passed)

-- Par: the side that has the mark in it; the second is settled after the names of the first.
module _ {s m : List ℕ} {f : Way} {mark : ℕ} {b : Bool} (h : Contains s (f.at + 1) mark b) where
  pub left_passed : b ≡ true
      → LeadsPastIf 6 s m f mark (record { at = f.at + 1; left = f.left - 1; end = f.end; names = f.names; opens = f.opens }) m
  left_passed is = passes_if 6 λ P (Q, R, e). rw e (one Q R)
    where
      one : (P Q : Process)
          → Passing s m f mark (record { at = f.at + 1; left = f.left - 1; end = f.end; names = f.names; opens = f.opens }) m (par P Q)
      one P Q ρ w y a here e o = absurd (o (omega arith))
      one P Q ρ w y a (leftward d) e o =
          let (p, q) = of_par P Q y.process in
          record {
            process = P;
            bound = ρ;
            prepared = prepared_part P y (omega arith) p (unchanged {low = f.end} {high = f.end});
            allowed = (allowed_par P Q a).0;
            down = d;
          }
      one P Q ρ w y a (rightward d) e o =
          let (p, q) = of_par P Q y.process in
          let inner : inside w.place (f.at + 1) P ≡ true = mark_held w P h (in_model p) e ∙ is in
          absurd (true≢false (sym (down_inside w d) ∙ left_only w.place f.at P Q inner))

  pub right_passed : {m₁ : List ℕ} {later mid high : ℕ} → b ≡ false → Takes s (f.at + 1) (f.left - 1) m f.end f.names later
      → Within f.end high m m₁ → Ends s (f.at + 1) mid
      → LeadsPastIf 6 s m f mark (record { at = mid; left = f.left - 1; end = f.end; names = later; opens = f.opens }) m₁
  right_passed {m₁} {later} {mid} is names_of i l = passes_if 6 λ P (Q, R, e). rw e (one Q R)
    where
      one : (P Q : Process)
          → Passing s m f mark (record { at = mid; left = f.left - 1; end = f.end; names = later; opens = f.opens }) m₁ (par P Q)
      one P Q ρ w y a here e o = absurd (o (omega arith))
      one P Q ρ w y a (leftward d) e o =
          let (p, q) = of_par P Q y.process in
          absurd (true≢false (sym (down_inside w d) ∙ (mark_held w P h (in_model p) e ∙ is)))
      one P Q ρ w y a (rightward d) e o =
          let (p, q) = of_par P Q y.process in
          let (u, u') = allowed_par P Q a in
          let first = prepared_part P y (omega arith) p (unchanged {low = f.end} {high = f.end}) in
          let next : later ≡ names P ρ f.names = names_of.exact P ρ (to_settle first u.own) u.settling in
          let behind : mid ≡ right_at f.at P = l.same P (in_model p) in
          rw (behind, next) (record { process = Q; bound = ρ; prepared = prepared_part Q y (omega arith) q i; allowed = u'; down = d })

pub ruleset sides_passed = (left_passed, right_passed)

-- Repl: the copy, in which copies open after its names.
pub copy_passed : {s m m₁ : List ℕ} {f : Way} {later high : ℕ} → Takes s (f.at + 1) (f.left - 1) m f.end f.opens later
    → Within f.end high m m₁
    → LeadsPastAny 7 s m f (record { at = f.at + 1; left = f.left - 1; end = f.end; names = f.opens; opens = later }) m₁
copy_passed {s} {m} {m₁} {f} {later} names_of i = record { exact = λ mark. passes_if 7 λ P (Q, e). rw e (one Q) }
  where
    one : {mark : ℕ} (P : Process)
        → Passing s m f mark (record { at = f.at + 1; left = f.left - 1; end = f.end; names = f.opens; opens = later }) m₁ (repl P)
    one P ρ w y a here e o = absurd (o (omega arith))
    one P ρ w y a (copied d) e o =
        let p = of_repl P y.process in
        let u = allowed_copy P a in
        let first = prepared_part P y (omega arith) p (unchanged {low = f.end} {high = f.end}) in
        let next : later ≡ names P ρ f.opens = names_of.exact P ρ (to_settle first u.own) u.settling in
        rw next (record { process = P; bound = ρ; prepared = prepared_part P y (omega arith) p i; allowed = u; down = d })
