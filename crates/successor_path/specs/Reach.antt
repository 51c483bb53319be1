-- The way from a process down to one of the processes that settling comes to, copies being opened, and the private names that what follows
-- an offer takes ("Steps"; "Judging and its count").
use Rattle.std.specs.Prelude.{◌≡◌, Bool, true, false, List, Option, ℕ, suc, ◌+◌, ◌*◌, ◌≤◌, ◌<◌, length, get_or}
use Rattle.meaning.specs.Messages.Term.{Term, leaf, private, Message}
use Rattle.meaning.specs.Messages.Normal.{equal}
use Rattle.meaning.specs.Bytes.Process.{Process}
use Rattle.meaning.specs.Bytes.Nesting.{variables}
use Rattle.meaning.specs.Steps.State.{Bound, ◌▸◌, written, worked, names, settle}
use Rattle.meaning.specs.Logic.Truth.{any_of}
use Rattle.meaning.specs.Judging.Limits.{over_settling, over_offers}
use Rattle.message_term.specs.Bound.{BoundTo}
use Rattle.state_record.specs.Place.{ProcessAt, then_at, else_at, body_at, right_at}
use Rattle.state_head.specs.News.{news, later_news}
use Rattle.state_head.specs.Head.{CanSettle}
use Rattle.state_head.specs.Count.{count_of}
use Rattle.step_located.specs.Located.{LocatedOffer}
use Rattle.step_located.specs.Sought.{Opened}
use Rattle.step_transition.specs.Outcome.{bound_after}
use Rattle.state_layout.specs.Loaded.{IsRunOf}
use Rattle.successor_path.specs.declared.reach.Way.{Way}

-- A process that settling comes to: its position and its bound messages, the private name at which it is settled, and the one at which its
-- copies open.
pub record Site : Type 0 where
  pub process : Process
  pub place : ℕ
  pub bound : Bound
  pub settled : ℕ
  pub opens : ℕ

-- Settling the process P at n, which stands at a position under ρ, comes to a site, copies being opened at k.
pub data Down : Process → (at : ℕ) → Bound → (n k : ℕ) → Site → Type 0 where
  here : {P : Process} {at : ℕ} {ρ : Bound} {n k : ℕ}
      → Down P at ρ n k (record { process = P; place = at; bound = ρ; settled = n; opens = k })
  made : {P : Process} {at : ℕ} {ρ : Bound} {n k : ℕ} {w : Site} → Down P (at + 1) (ρ ▸ leaf (private n)) (suc n) k w
      → Down (Process.new P) at ρ n k w
  then : {M N : Term} {P Q : Process} {at : ℕ} {ρ : Bound} {n k : ℕ} {w : Site} → equal (written ρ M) (written ρ N) ≡ true
      → Down P (then_at at M N) ρ n k w → Down (Process.if M N P Q) at ρ n k w
  else : {M N : Term} {P Q : Process} {at : ℕ} {ρ : Bound} {n k : ℕ} {w : Site} → equal (written ρ M) (written ρ N) ≡ false
      → Down Q (else_at at M N P) ρ n k w → Down (Process.if M N P Q) at ρ n k w
  body : {M : Term} {P : Process} {at : ℕ} {ρ : Bound} {n k : ℕ} {w : Site} → Down P (body_at at M) (ρ ▸ worked ρ M) n k w
      → Down (Process.let_in M P) at ρ n k w
  leftward : {P Q : Process} {at : ℕ} {ρ : Bound} {n k : ℕ} {w : Site} → Down P (at + 1) ρ n k w → Down (Process.par P Q) at ρ n k w
  rightward : {P Q : Process} {at : ℕ} {ρ : Bound} {n k : ℕ} {w : Site} → Down Q (right_at at P) ρ (names P ρ n) k w
      → Down (Process.par P Q) at ρ n k w
  copied : {P : Process} {at : ℕ} {ρ : Bound} {n k : ℕ} {w : Site} → Down P (at + 1) ρ k (names P ρ k) w
      → Down (Process.repl P) at ρ n k w

-- An offer and a repl thread are such processes, settled at n.
abbrev pub offer_site : LocatedOffer → (n : ℕ) → Site
offer_site a n =
    record { process = Process.act a.prefix a.rest; place = a.place; bound = a.bound; settled = n; opens = a.next }

abbrev pub copy_site : Opened → (n : ℕ) → Site
copy_site w n =
    record { process = Process.repl w.copied; place = w.place; bound = w.bound; settled = n; opens = w.opens }

-- A process at a position, the messages that are bound, and room for whatever the process may bind or work.
pub record Prepared (s : List ℕ) (at left : ℕ) (m : List ℕ) (end : ℕ) (P : Process) (ρ : Bound) : Type 0 where
  pub next : ℕ
  pub process : ProcessAt s at left (length ρ) P next
  pub bound : BoundTo m 0 ρ end
  pub room : end + 512 * variables P + 4606 ≤ length m

-- Two bytes hold its private names, and it meets no limit: not while it is settled at n, nor do its threads, copies being opened at k.
pub record Allowed (P : Process) (ρ : Bound) (n k : ℕ) : Type 0 where
  pub own : n + news P ≤ 32760
  pub later : k + later_news P ≤ 32760
  pub settling : over_settling P ρ n ≡ false
  pub offering : any_of (λ t. over_offers t k) (settle P ρ n) ≡ false

-- Whatever process stands there, settled at n, if it meets no limit: the next private name.
pub record Takes (s : List ℕ) (at left : ℕ) (m : List ℕ) (end n : ℕ) (r : ℕ) : Type 0 where
  pub exact : (P : Process) (ρ : Bound) → CanSettle s at left m end n P ρ → over_settling P ρ n ≡ false → r ≡ names P ρ n

-- A process stands where a way has come to, from which settling comes to a site. Its messages are bound, and it meets no limit.
pub record Leads (s m : List ℕ) (r : Way) (w : Site) : Type 0 where
  pub process : Process
  pub bound : Bound
  pub prepared : Prepared s r.at r.left m r.end process bound
  pub allowed : Allowed process bound r.names r.opens
  pub down : Down process r.at bound r.names r.opens w

-- The way has come to the site.
pub record Arrives (s m : List ℕ) (r : Way) (w : Site) : Type 0 where
  pub place : r.at ≡ w.place
  pub opens : r.opens ≡ w.opens
  pub prepared : Prepared s w.place r.left m r.end w.process w.bound
  pub allowed : Allowed w.process w.bound w.settled w.opens

-- If the way f leads to a process at the mark, r has come to it.
pub record Reaches (s m : List ℕ) (f : Way) (mark : ℕ) (r : Way) (after : List ℕ) : Type 0 where
  pub exact : (w : Site) → Leads s m f w → mark ≡ w.place + 1 → Arrives s after r w

-- If f leads to a process at the mark, so does r.
pub record LeadsOn (s m : List ℕ) (f : Way) (mark : ℕ) (r : Way) (after : List ℕ) : Type 0 where
  pub exact : (w : Site) → Leads s m f w → mark ≡ w.place + 1 → Leads s after r w

-- The same, if the mark is not that of the process where f has come to; and if that process is of a kind besides, whatever the mark; for a
-- new, in whatever model; and for an if, under whatever messages.
pub record LeadsPast (s m : List ℕ) (f : Way) (mark : ℕ) (r : Way) (after : List ℕ) : Type 0 where
  pub exact : (f.at + 1 ≡ mark → ⊥) → LeadsOn s m f mark r after

pub record LeadsPastIf (kind : ℕ) (s m : List ℕ) (f : Way) (mark : ℕ) (r : Way) (after : List ℕ) : Type 0 where
  pub exact : get_or s f.at 0 ≡ kind → LeadsPast s m f mark r after

pub record LeadsPastAny (kind : ℕ) (s m : List ℕ) (f r : Way) (after : List ℕ) : Type 0 where
  pub exact : (mark : ℕ) → LeadsPastIf kind s m f mark r after

pub record NewLeadsPast (m : List ℕ) (f r : Way) (after : List ℕ) : Type 0 where
  pub exact : (s : List ℕ) → LeadsPastAny 1 s m f r after

pub record IfLeadsPast (s : List ℕ) (f : Way) (mark : ℕ) (r : Way) : Type 0 where
  pub exact : (m : List ℕ) → LeadsPastIf 4 s m f mark r m

-- Whether a way goes on: a node is left, and where a byte stands, the mark is another one.
pub record Goes (s : List ℕ) (f : Way) (mark : ℕ) (r : Bool) : Type 0 where
  pub node : r ≡ true → 1 ≤ f.left
  pub other : r ≡ true → f.at < length s → f.at + 1 ≡ mark → ⊥
  pub done : r ≡ false → 1 ≤ f.left → f.at + 1 ≡ mark

-- Whatever output or input stands there, the answer is that for what follows it, under the message of the label too if it is an input.
pub record CountsRest (s argument : List ℕ) (at left : ℕ) (m : List ℕ) (end n : ℕ) (r : Option ℕ) : Type 0 where
  pub exact : (a : LocatedOffer) (x : Message) → Prepared s at left m end (Process.act a.prefix a.rest) a.bound → IsRunOf argument x
      → n + news a.rest ≤ 32760 → r ≡ count_of a.rest (bound_after x a) n
