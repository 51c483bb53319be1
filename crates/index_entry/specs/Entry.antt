-- What the index says of a process: where it ends, the last output and the last input that it offers at once, how many private names it
-- takes if no message decides that, and how far it may grow ("Bytes"; "Steps").
use Rattle.std.specs.Prelude.{◌≡◌, Bool, true, false, List, [], ◌∷◌, ℕ, zero, suc, ◌+◌, ◌-◌, ◌≤◌, ltb, length, get_or}
use Rattle.meaning.specs.Bytes.Process.{output, input, Process, nil, new, act, if, let_in, par, repl}
use Rattle.meaning.specs.Bytes.Encoding.{encode_term, encode_process}
use Rattle.index_entry.specs.declared.entry.Entry.{Entry}

-- The later one of two positions: the second one, and what the first one is more.
abbrev pub latest : (a b : ℕ) → ℕ
latest a b = a - b + b

-- The position after the kind of the last output that a process offers at once which stands at a position, or of the last input: in
-- whatever branch, and in copies too. It is 0 if there is none.
unfoldable pub last_of : (out : Bool) → (at : ℕ) → Process → ℕ
last_of out at nil = 0
last_of out at (new P) = last_of out (at + 1) P
last_of out at (act (output C M) P) = elim out [ true ↦ at + 1 | false ↦ 0 ]
last_of out at (act (input C) P) = elim out [ true ↦ 0 | false ↦ at + 1 ]
last_of out at (if M N P Q) =
    latest (last_of out (at + 1 + length (encode_term M) + length (encode_term N)) P)
    (last_of out (at + 1 + length (encode_term M) + length (encode_term N) + length (encode_process P)) Q)
last_of out at (let_in M P) = last_of out (at + 1 + length (encode_term M)) P
last_of out at (par P Q) = latest (last_of out (at + 1) P) (last_of out (at + 1 + length (encode_process P)) Q)
last_of out at (repl P) = last_of out (at + 1) P

-- Names of two processes together, each given with one more; 0 if either is open.
abbrev pub together : (a b : ℕ) → ℕ
together zero b = 0
together (suc a) zero = 0
together (suc a) (suc b) = suc (a + b)

-- How many private names settling a process takes, and one more; 0 if it is open, since an `if` or a `let` is met first.
unfoldable pub fixed_names : Process → ℕ
fixed_names nil = 1
fixed_names (new P) = together 2 (fixed_names P)
fixed_names (act p P) = 1
fixed_names (if M N P Q) = 0
fixed_names (let_in M P) = 0
fixed_names (par P Q) = together (fixed_names P) (fixed_names Q)
fixed_names (repl P) = 1

-- Two numbers together, but 33 at most: more than a state has threads.
abbrev pub capped : (a b : ℕ) → ℕ
capped a b = 33 - (33 - a - b)

-- How many threads a process has at most after it was settled and one copy of each repl in it was opened, and how many private names it
-- binds on the way, together; 33 if that is more than a state has room for, or if a `let` is met, since its message may be large.
unfoldable pub growth : Process → ℕ
growth nil = 0
growth (new P) = capped 1 (growth P)
growth (act p P) = 1
growth (if M N P Q) = capped (growth P) (growth Q)
growth (let_in M P) = 33
growth (par P Q) = capped (growth P) (growth Q)
growth (repl P) = capped 1 (growth P)

-- A number of names as a byte has it: 0, so open, if it is too large for a byte. No state has so many private names.
unfoldable pub short : ℕ → ℕ
short n = elim (ltb 255 n) [ true ↦ 0 | false ↦ n ]

abbrev pub entry : (end output input names growth : ℕ) → Entry
entry e o i n k = record { end = e; output = o; input = i; names = n; growth = k }

-- The entry of a process that stands at a position.
abbrev pub entry_of : (at : ℕ) → Process → Entry
entry_of at P = entry (at + length (encode_process P)) (last_of true at P) (last_of false at P) (fixed_names P) (growth P)

-- The entry of processes in a row.
abbrev pub joined : (e f : Entry) → Entry
joined e f =
    entry f.end (latest e.output f.output) (latest e.input f.input) (together e.names f.names) (capped e.growth f.growth)

abbrev pub row_of : (at : ℕ) → List Process → Entry
row_of at [] = entry at 0 0 1 0
row_of at (P ∷ []) = entry_of at P
row_of at (P ∷ Q ∷ Ps) = joined (entry_of at P) (row_of (at + length (encode_process P)) (Q ∷ Ps))

-- The entry of a node at a position, from the one of its parts, by its kind: nil, new, output, input, if, let, par, repl.
abbrev pub named : Entry → (names growth : ℕ) → Entry
named e n k = entry e.end e.output e.input n k

abbrev pub node_entries : (at : ℕ) → Entry → List Entry
node_entries at e =
    e
    ∷ named e (together 2 e.names) (capped 1 e.growth)
    ∷ entry e.end (at + 1) 0 1 1
    ∷ entry e.end 0 (at + 1) 1 1
    ∷ named e 0 e.growth
    ∷ named e 0 33
    ∷ e
    ∷ named e 1 (capped 1 e.growth)
    ∷ []

abbrev pub node_of : (kind at : ℕ) → Entry → Entry
node_of kind at e = get_or (node_entries at e) kind e

-- The numbers of an entry are those of a position of the model, or few.
pub record Small (e : Entry) : Type 0 where
  pub end : e.end ≤ 4096
  pub output : e.output ≤ 4096
  pub input : e.input ≤ 4096
  pub names : e.names ≤ 4096
  pub growth : e.growth ≤ 33

pub record IsLarge (e : Entry) (r : Bool) : Type 0 where
  pub yes : r ≡ true → Small e → ⊥
  pub no : r ≡ false → Small e

-- If they are, the answer is the names of two processes together, the entry of two in a row, and the one of a node.
pub record Together (a b r : ℕ) : Type 0 where
  pub exact : a ≤ 4096 → b ≤ 4096 → r ≡ together a b

pub record JoinsEntries (e f r : Entry) : Type 0 where
  pub exact : Small e → Small f → r ≡ joined e f

pub record IsNode (kind at : ℕ) (e r : Entry) : Type 0 where
  pub exact : Small e → r ≡ node_of kind at e
