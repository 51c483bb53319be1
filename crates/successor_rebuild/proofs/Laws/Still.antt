-- Threads that do not act, passed one by one ("Steps"): their records, how many they are, and their nodes.
use mathlib.Core.Path.{◌≡◌, refl, ap, fun_ext, ◌∙◌}
use mathlib.Core.Bool.{true, false, not}
use mathlib.Core.List.{List, [], ◌∷◌, ◌++◌, append_assoc, append-nil}
use Prim.Native.Nat.{ℕ, ◌+◌, ◌-◌, ◌≤◌, ◌<◌}
use native.Mathlib.Omega.{arith}
use borrow.Author.Tests.{eqb-true, eqb-false, leb-false, not-true, not-false}
use lib.Dec.{eqb, leb}
use lib.ListN.{length, take, drop, length-append}
use Rattle.meaning.specs.Judging.Limits.{bound_nodes, thread_nodes}
use Rattle.meaning.proofs.Bytes.Reading.Place.{◌⨾◌}
use Rattle.buffer.specs.Word.{number_at}
use Rattle.buffer.proofs.Laws.Buffer.{part}
use Rattle.state_record.specs.Record.{Placed, bound_of, encode_record, encode_records, NodesOf}
use Rattle.state_progress.specs.TraversalResult.{Accumulated, TraversalResult, going, over_limit, found, further, push}
use Rattle.state_record.proofs.Laws.Stored.{record_parts}
use Rattle.state_head.specs.Settled.{threads_of}
use Rattle.step_located.specs.Rebuilt.{push_all}
use Rattle.step_located.proofs.Laws.Writing.{push_all_append}
use Rattle.step_transition.specs.Threads.{Threads}
use Rattle.step_transition.proofs.Laws.Threads.{first_thread, record_end, no_threads}
use Rattle.successor_rebuild.specs.Rebuild.{rebuilt}
use Rattle.successor_rebuild.specs.Block.{Parted, Still, Halts}
use Rattle.successor_rebuild.specs.declared.block.Block.{Block}
use Rattle.successor_rebuild.proofs.Laws.Rebuild.{renewed_others}
use Rattle.successor_rebuild.proofs.Laws.Block.{nodes_first, records_joined}

-- One thread after others: its nodes, its record, and how it is written.
nodes_last : (ts : List Placed) (t : Placed)
    → thread_nodes (threads_of (ts ++ (t ∷ []))) ≡ thread_nodes (threads_of ts) + bound_nodes (bound_of t.thread)
unfolding thread_nodes
nodes_last [] t = omega (arith, nodes_first t.thread [])
nodes_last (u ∷ ts) t =
    omega (arith, nodes_last ts t, nodes_first u.thread (threads_of (ts ++ (t ∷ []))), nodes_first u.thread (threads_of ts))

module _ (ts : List Placed) (t : Placed) where
  record_last : encode_records (ts ++ (t ∷ [])) ≡ encode_records ts ++ encode_record t
  unfolding encode_records
  record_last = records_joined ts (t ∷ []) ∙ rw (append-nil (encode_record t))

  push_last : (g : Accumulated) (f : Accumulated → TraversalResult)
      → further (push_all ts g) (λ h. further (push t.place t.thread h) f) ≡ further (push_all (ts ++ (t ∷ [])) g) f
  unfolding push_all
  push_last g f = rw (push_all_append ts (t ∷ []) g) (by_course (push_all ts g))
    where
      by_push : (c : TraversalResult) → further c f ≡ further (further c going) f
      by_push (going h) = refl
      by_push over_limit = refl
      by_push (found x n ms) = refl

      by_course : (c : TraversalResult) → further c (λ h. further (push t.place t.thread h) f) ≡ further (further c (push_all (t ∷ []))) f
      by_course (going h) = by_push (push t.place t.thread h)
      by_course over_limit = refl
      by_course (found x n ms) = refl

module _ {out : List ℕ} {at to i j : ℕ} where
  -- None yet.
  pub none_still : Still out at to i j (record { end = at; threads = 0; nodes = 0 })
  unfolding encode_records push_all thread_nodes
  none_still = record {
    exact = λ s ps h. record {
      front = [];
      others = ps;
      whole = refl;
      block = record { stands = record { bytes = refl; size = omega arith }; threads = refl; nodes = refl };
      behind = h;
      same = λ x T U g. refl;
    };
  }

  -- One more.
  pub one_still : {end threads nodes size v : ℕ} → Still out at to i j (record { end = end; threads = threads; nodes = nodes }) → 4 ≤ to - end
      → not (eqb end i) ≡ true → not (eqb end j) ≡ true → size ≡ number_at out (end + 2)
      → NodesOf (take (end + 4 + size - (end + 4)) (drop (end + 4) out)) v
      → Still out at to i j (record { end = end + 4 + size; threads = threads + 1; nodes = nodes + v })
  unfolding rebuilt
  one_still {end} {threads} {nodes} {size} {v} w far f e z n = record {
    exact = λ s ps h. let p = w.exact s ps h in of s ps p p.others refl;
  }
    where
      of : (s : List ℕ) (ps : List Placed) {k : ℕ} (p : Parted s out at to i j k ps (record { end = end; threads = threads; nodes = nodes }))
          (us : List Placed) → p.others ≡ us
          → Parted s out at to i j k ps (record { end = end + 4 + size; threads = threads + 1; nodes = nodes + v })
      of s ps p [] o = absurd (omega (arith, no_threads (rw o at p.behind)))
      of s ps p (t ∷ ts) o =
          let (r, judged, rest) = first_thread t ts (rw o at p.behind) in
          let (place, long, bound) = record_parts t r.stands in
          let here : end + length (encode_record t) ≡ end + 4 + size = omega (arith, bound.size) in
          let not-i = eqb-false end i (not-true _ f) in
          let not-j = eqb-false end j (not-true _ e) in
          let counted = n.same (bound_of t.thread) (rw here at (part bound)) in
          record {
            front = p.front ++ (t ∷ []);
            others = ts;
            whole = p.whole ∙ rw (o, append_assoc p.front (t ∷ []) ts);
            block = record {
              stands = rw (record_last p.front t) (p.block.stands ⨾ (rw here at r.stands));
              threads = omega (arith, p.block.threads, length-append p.front (t ∷ []));
              nodes = omega (arith, p.block.nodes, nodes_last p.front t, counted);
            };
            behind = rw here at rest;
            same = λ x T U g.
                p.same x T U g ∙ ap (λ us. further (push_all p.front g) (rebuilt x i T j U end us)) o
                ∙ ap (further (push_all p.front g)) (fun_ext (λ h. rw (renewed_others x i T j U end t h not-i not-j, here)))
                ∙ push_last p.front t g (rebuilt x i T j U (end + 4 + size) ts);
          }

-- Where a block ends, a thread acts; or no record stands there, or there are too many nodes.
module _ {out : List ℕ} {to i j : ℕ} {b : Block} where
  pub ends_first : not (eqb b.end i) ≡ false → Halts out to i j b
  ends_first e = record { acts = λ s ps h far l f. absurd (f (eqb-true b.end i (not-false _ e))) }

  pub ends_second : not (eqb b.end j) ≡ false → Halts out to i j b
  ends_second e = record { acts = λ s ps h far l f. eqb-true b.end j (not-false _ e) }

  pub ends_full : leb b.nodes 1024 ≡ false → Halts out to i j b
  ends_full e = record { acts = λ s ps h far l f. absurd (omega (arith, leb-false b.nodes 1024 e)) }

  pub ends_last : to - b.end < 4 → Halts out to i j b
  ends_last e = record { acts = λ s ps h far l f. absurd (omega arith) }

  pub ends_cut : {size : ℕ} → size ≡ number_at out (b.end + 2) → to < b.end + 4 + size → Halts out to i j b
  ends_cut {size} z e = record { acts = λ s ps h far l f. absurd (by_threads ps h far) }
    where
      by_threads : {s : List ℕ} {k : ℕ} (ps : List Placed) → Threads s out b.end k ps to → 4 ≤ to - b.end → ⊥
      by_threads [] h far = omega (arith, no_threads h)
      by_threads (t ∷ ts) h far = let (long, short) = record_end t ts h in omega arith

pub ruleset stills = (none_still, one_still)

pub ruleset endings = (ends_first, ends_second, ends_full, ends_last, ends_cut)
