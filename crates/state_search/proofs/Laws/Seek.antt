-- The traversal that seeks an offer is the traversal of that task: its numbers, and each kind of process ("Steps").
use Rattle.std.specs.Prelude.{Option, Some, None}
use mathlib.Core.Path.{◌≡◌, refl, sym, ◌∙◌}
use mathlib.Core.Bool.{Bool, true, false, true≢false}
use mathlib.Core.List.{List, [], ◌∷◌}
use Prim.Native.Nat.{ℕ, ◌+◌, ◌-◌, ◌≤◌}
use lib.ListN.{length, get_or}
use Rattle.meaning.specs.Messages.Term.{Message}
use Rattle.meaning.specs.Bytes.Process.{Process}
use Rattle.meaning.specs.Places.{Every, none, ◌also◌}
use Rattle.meaning.specs.Steps.State.{Bound}
use Rattle.buffer.specs.Buffer.{Within}
use Rattle.index_process.specs.Index.{Ends}
use Rattle.state_record.specs.Room.{fresh_state}
use Rattle.state_progress.specs.TraversalResult.{Accumulated, TraversalResult, going, over_limit, found}
use Rattle.state_progress.specs.Represented.{Represents, RepresentsResult}
use Rattle.state_progress.specs.Progress.{Stopped, Renamed}
use Rattle.state_record.specs.declared.state.State.{State}
use Rattle.state_progress.specs.declared.progress.Progress.{Progress}
use Rattle.state_record.proofs.Laws.Process.{in_model, shaped, of_repl}
use Rattle.state_progress.proofs.Laws.Progress.{still_shows, to_end}
use Rattle.state_task.specs.Machine.{contains, opening, sought, at_repl}
use Rattle.state_task.specs.Thread.{Seeks}
use Rattle.state_task.specs.Place.{Contains}
use Rattle.state_task.specs.declared.task.Quest.{Quest}
use Rattle.state_task.specs.declared.task.Task.TheVariants.{Seek}
use Rattle.state_head.specs.News.{news}
use Rattle.state_head.specs.Traversal.{go}
use Rattle.state_head.specs.Head.{Descends, Settled}
use Rattle.state_head.specs.Count.{Counts}
use Rattle.state_head.specs.Traverse.{Ready, copy_of}
use Rattle.state_search.specs.Seek.{begun_at, reached, Comes, GivesBack, SeekTraverses, SeekTraversesIf, SeekOpens}
use Rattle.state_head.specs.declared.head.Head.{Head}
use Rattle.state_search.specs.declared.seek.Sought.{Sought}
use Rattle.state_search.specs.declared.seek.Sought.TheVariants.{On, Ended}
use Rattle.state_head.proofs.Laws.TraversalResult.{sought_ends}
use Rattle.state_head.proofs.Laws.Traverse.{met_limit, at_head, is_nil, is_kind, is_prefix, par_stopped, par_traversed}
use Rattle.state_head.proofs.Laws.Copy.{names_back, copy_over, copy_done}
use Rattle.state_head.proofs.Laws.Prefix.{on_seek}

-- What a traversal has come to, by its numbers.
module _ {a : Sought} {to n : ℕ} where
  pub as_on : {st : State} → a ≡ On n → st ≡ fresh_state to to 0
      → record { going = true; names = n; mark = 0; sent = 0; state = st } ≡ reached to a
  as_on e f = rw (e, f)

  pub as_ended : {mark sent end : ℕ} → a ≡ Ended n mark sent end → reached to (Ended n mark sent end) ≡ reached to a
  as_ended e = rw e

pub ruleset reachings = (as_on, as_ended)

-- The numbers of what a traversal has come to.
pub goes_on : {now : Progress} {n : ℕ} → now.going ≡ true → Comes now n (On n)
goes_on on = record { on = λ e. refl; ended = λ off. absurd (true≢false (sym on ∙ off)) }

pub goes_not : {now : Progress} {n : ℕ} → now.going ≡ false → Comes now n (Ended now.names now.mark now.sent now.state.end)
goes_not off = record { on = λ on. absurd (true≢false (sym on ∙ off)); ended = λ e. refl }

pub ruleset comings = (goes_on, goes_not)

-- With another next private name.
begun : (to n k : ℕ) → Renamed (begun_at to n) k (begun_at to k)
begun to n k = record { going = refl; state = refl; names = λ e. refl; same = λ e. absurd (true≢false e) }

pub back_on : {a : Sought} {n k : ℕ} → a ≡ On k → GivesBack a n (On n)
back_on {n = n} {k} e = record { renamed = λ to. rw e (begun to k n) }

pub back_not : {a : Sought} {n i j k l : ℕ} → a ≡ Ended i j k l → GivesBack a n a
back_not e = record {
  renamed = λ to. rw e (record { going = refl; state = refl; names = λ f. absurd (true≢false (sym f)); same = λ f. refl });
}

pub ruleset backs = (back_on, back_not)

-- A limit was met.
over : (to n k : ℕ) → Stopped (begun_at to n) (reached to (Ended k 0 0 to))
over to n k = record { over = record { off = refl; mark = refl }; state = refl }

-- What is found at a thread that acts by itself, as numbers.
pub own_above : {out after : List ℕ} {n to high : ℕ} {now : Progress} → now ≡ begun_at to n → Within now.state.end high out after
    → Within to (length out) out after
own_above is i = to_end (rw is at i)

pub own_numbers : {s argument m out after : List ℕ} {at end n k to high : ℕ} {q : Quest} {now d : Progress} {r : Sought} → now ≡ begun_at to n
    → Seeks s argument at m end q k out now d after → Comes d n r → Within now.state.end high out after
    → Seeks s argument at m end q k out (begun_at to n) (reached to r) after
own_numbers {s} {out = out} {after} {at} {n = n} {k} {to} {high} {q} {d = d} {r} is w c i = record {
  exact = λ p P x ρ g y b l v.
      last g v (sought q k x at ρ p g) (sought_ends at ρ g {Q = λ h. h ≡ g} refl q k x p).at_end ((rw is at w).exact p P x ρ g y b l v);
}
  where
    above : Within to high out after
    above = rw is at i

    last : (g : Accumulated) → Represents s out (begun_at to n) g → (e : TraversalResult) → ((h : Accumulated) → e ≡ going h → h ≡ g) → RepresentsResult s after d e
        → RepresentsResult s after (reached to r) e
    last g v (going h) f z = rw (c.on z.on, f h refl) (still_shows v above)
    last g v over_limit f z = rw (c.ended z.off) (record { off = refl; mark = z.mark })
    last g v (found x j ms) f z = rw (c.ended z.off) (record { off = refl; mark = z.mark; next = z.next; messages = z.messages })

-- A process, by its head.
module _ {s argument m m₁ out : List ℕ} {at left end n k to : ℕ} {q : Quest} {c : Option Head} (d : Descends s at left m end n c m₁) where
  pub seek_over : {j : ℕ} → c ≡ None → SeekTraverses s argument at left m end q n k to out (Ended j 0 0 to) out
  seek_over {j} stops = record { traverses = met_limit refl d stops (over to n j) }

  module _ {h : Head} (is : c ≡ Some h) (e : Settled s h) (l : h.left ≤ left) where
    pub seek_nil : get_or s h.at 0 ≡ 0 → SeekTraverses s argument at left m end q n k to out (On h.names) out
    seek_nil z = record { traverses = at_head refl d is e l (is_nil (begun to n h.names) z) }

    module _ {after : List ℕ} {r : Sought} where
      pub seek_kind : {i : ℕ} → get_or s h.at 0 ≡ i → SeekTraversesIf i s argument h.at h.left m₁ h.end q h.names k to out r after
          → SeekTraverses s argument at left m end q n k to out r after
      seek_kind z w = record { traverses = at_head refl d is e l (is_kind (begun to n h.names) z w.traverses) }

      pub seek_prefix : (get_or s h.at 0 ≡ 0 → ⊥) → (get_or s h.at 0 ≡ 6 → ⊥) → (get_or s h.at 0 ≡ 7 → ⊥)
          → Seeks s argument h.at m₁ h.end q k out (begun_at to h.names) (reached to r) after
          → SeekTraverses s argument at left m end q n k to out r after
      seek_prefix f₀ f₆ f₇ w = record {
        traverses = at_head refl d is e l (is_prefix (begun to n h.names) f₀ f₆ f₇ (on_seek refl w));
      }

pub ruleset heads_sought = (seek_over, seek_nil, seek_kind, seek_prefix)

-- Par: the first side, and where that goes on the second.
module _ {s argument m out out₁ : List ℕ} {at left end n k to : ℕ} {q : Quest} {a : Sought}
    (v : SeekTraverses s argument (at + 1) (left - 1) m end q n k to out a out₁) where
  pub first_ended : {i j u l : ℕ} → a ≡ Ended i j u l → SeekTraversesIf 6 s argument at left m end q n k to out a out₁
  first_ended is = record { traverses = par_stopped v.traverses (rw is refl) }

  pub both_sought : {m₁ after : List ℕ} {next mid high : ℕ} {r : Sought} → a ≡ On next
      → SeekTraverses s argument mid (left - 1) m₁ end q next k to out₁ r after → Ends s (at + 1) mid → Within end high m m₁
      → SeekTraversesIf 6 s argument at left m end q n k to out r after
  both_sought is w l i = record { traverses = par_traversed (rw is at v.traverses) w.traverses l i }

pub ruleset pars_sought = (first_ended, both_sought)

-- A copy, whose names are counted.
module _ {s argument m : List ℕ} {at left end n k to : ℕ} {q : Quest} {a : Option ℕ} (c : Counts s (at + 1) (left - 1) m end k a) where
  pub copy_limit : {out : List ℕ} → a ≡ None → SeekOpens s argument at left m end q n k to out (Ended n 0 0 to) out
  copy_limit is = record { opens = copy_over c is (over to n n) }

  pub copy_sought : {m₁ out after : List ℕ} {high next : ℕ} {d r : Sought} → a ≡ Some next
      → SeekTraverses s argument (at + 1) (left - 1) m₁ end q k next to out d after → GivesBack d n r → Within end high m m₁
      → SeekOpens s argument at left m end q n k to out r after
  unfolding opening
  copy_sought is w b i = record { opens = copy_done c is (names_back w.traverses (b.renamed to)) refl (begun to n k) i }

pub ruleset copies_sought = (copy_limit, copy_sought)

-- Repl: a copy is opened, if the thread does not have the mark in it that is left out.
module _ {s argument m out : List ℕ} {at left end n k to : ℕ} {q : Quest} {b : Bool} (w : Contains s (at + 1) q.excluded b) where
  by_repl : {after : List ℕ} {r : Sought}
      → ((P : Process) (x : Message) (ρ : Bound) (g : Accumulated) → Ready s argument at left m end (Seek q k) (Process.repl P) x ρ g
      → b ≡ contains q.excluded (at + 1) P → Represents s out (begun_at to n) g
      → RepresentsResult s after (reached to r) (at_repl (Seek q k) at ρ P (copy_of at P x ρ) g))
      → SeekTraversesIf 7 s argument at left m end q n k to out r after
  unfolding go
  by_repl f = record {
    traverses = record {
      exact = λ e. record {
        exact = λ P x ρ g y v.
            let (Q, i) = shaped 7 P y.process e in
            let z = rw i at y in
            rw i (f Q x ρ g z (w.exact Q (in_model (of_repl Q z.process))) v);
      };
    };
  }

  pub repl_held : b ≡ true → SeekTraversesIf 7 s argument at left m end q n k to out (On n) out
  unfolding at_repl
  repl_held is = by_repl λ P x ρ g y e v. rw (sym e ∙ is, at_repl) v

  pub repl_sought : {after : List ℕ} {r : Sought} → b ≡ false → SeekOpens s argument at left m end q n k to out r after
      → SeekTraversesIf 7 s argument at left m end q n k to out r after
  unfolding at_repl
  repl_sought is o = by_repl λ P x ρ g y e v. rw (sym e ∙ is, at_repl) (o.opens.exact P x ρ g y (fits P y.fits.others) v)
    where
      fits : (P : Process) → Every (λ j. j + news P ≤ 32760) (k ∷ []) → k + news P ≤ 32760
      fits P (h also none) = h

pub ruleset repls_sought = (repl_held, repl_sought)
