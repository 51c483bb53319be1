-- The equations of messages and the equality that they generate ("Messages").
use Rattle.meaning.specs.Messages.Term.{Side, fst, snd, Direction, opposite, Binary, pair, cipher, Tree, leaf, proj, binary}

infix 4 ◌⇝◌
infix 4 ◌≈◌
-- What a projection takes from a pair.
abbrev pub part : {L : Type 0} → Side → Tree L → Tree L → Tree L
part fst m n = m
part snd m n = n

-- The four equations, left to right: fst and snd of a pair, dec of enc and enc of dec under one key.
pub data ◌⇝◌ {L : Type 0} : Tree L → Tree L → Type 0 where
  projected : (s : Side) (m n : Tree L) → proj s (binary pair m n) ⇝ part s m n
  undone : (d : Direction) (m k : Tree L) → binary (cipher d) (binary (cipher (opposite d)) m k) k ⇝ m

-- The congruence that they generate.
pub data ◌≈◌ {L : Type 0} : Tree L → Tree L → Type 0 where
  equation : {m n : Tree L} → m ⇝ n → m ≈ n
  reflexive : (m : Tree L) → m ≈ m
  symmetric : {m n : Tree L} → m ≈ n → n ≈ m
  transitive : {l m n : Tree L} → l ≈ m → m ≈ n → l ≈ n
  under_proj : (s : Side) {m n : Tree L} → m ≈ n → proj s m ≈ proj s n
  under_binary : (b : Binary) {m n k l : Tree L} → m ≈ n → k ≈ l → binary b m k ≈ binary b n l

-- Equal by the equations, however that was derived.
abbrev pub Equal : {L : Type 0} → Tree L → Tree L → Type 0
Equal m n = ∥ m ≈ n ∥₁

-- No equation applies at the top, left to right; no equation applies at any depth.
abbrev pub Stuck : {L : Type 0} → Tree L → Type 0
Stuck {L} m = (n : Tree L) → ¬ (m ⇝ n)

abbrev pub Normal : {L : Type 0} → Tree L → Type 0
Normal (leaf l) = Stuck (leaf l)
Normal (proj s m) = Stuck (proj s m) × Normal m
Normal (binary b m n) = Stuck (binary b m n) × Normal m × Normal n
