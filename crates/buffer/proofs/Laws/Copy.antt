-- A copy of a whole slice, lowest byte first ("Messages": each submessage is one unbroken run).
use mathlib.Core.Path.{◌≡◌}
use mathlib.Core.List.{List}
use Prim.Native.Nat.{ℕ, ◌+◌, ◌≤◌, ◌<◌}
use native.Mathlib.Numerals.{add-one}
use native.Mathlib.Omega.{arith}
use lib.ListN.{length, get_or, set}
use lib.Seq.{paste, paste-zero, paste-suc}

-- So many bytes are copied when no more are left.
pub paste_done : {now : List ℕ} (m x : List ℕ) (to n i : ℕ) → now ≡ paste m to x i → i ≤ n → n ≤ i → now ≡ paste m to x n
paste_done m x to n i e h l = let all : n ≡ i = omega arith in rw all e

pub put_more : {now : List ℕ} (m x : List ℕ) (to i : ℕ) → now ≡ paste m to x i → i < length x → to + length x ≤ length m
    → set now (to + i) (get_or x i 0) ≡ paste m to x (i + 1)
put_more m x to i e h room = rw (e, add-one) (paste-suc m to x i 0 (omega arith) h)

pub ruleset puts = (paste-zero, put_more, paste_done)
