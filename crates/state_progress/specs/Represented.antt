-- What a traversal has come to, as numbers and bytes ("Steps").
use Rattle.std.specs.Prelude.{◌≡◌, true, false, List, [], ◌∷◌, ◌++◌, ℕ, ◌+◌, ◌*◌, ◌≤◌, length}
use Rattle.meaning.specs.Messages.Term.{Message}
use Rattle.meaning.specs.Bytes.Standing.{Stands}
use Rattle.meaning.specs.Places.{Every}
use Rattle.message_bytes.specs.Encoding.{encode_message}
use Rattle.state_record.specs.Record.{encode_records, Standing}
use Rattle.state_progress.specs.TraversalResult.{Accumulated, TraversalResult, going, over_limit, found}
use Rattle.state_progress.specs.declared.progress.Progress.{Progress}

-- A traversal that goes on.
pub record Represents (s out : List ℕ) (now : Progress) (g : Accumulated) : Type 0 where
  pub on : now.going ≡ true
  pub names : now.names ≡ g.names
  pub threads : now.state.threads ≡ length g.threads
  pub nodes : now.state.nodes ≡ g.nodes
  pub records : Stands out now.state.start (encode_records g.threads) now.state.end
  pub size : now.state.end ≤ now.state.start + 28 * length g.threads + 2 * g.nodes
  pub few : length g.threads ≤ 32
  pub light : g.nodes ≤ 1024
  pub room : now.state.start + 3964 ≤ length out
  pub standing : Every (Standing s) g.threads

-- Messages one after the other.
unfoldable pub encode_messages : List Message → List ℕ
encode_messages [] = []
encode_messages (x ∷ xs) = encode_message x ++ encode_messages xs

-- What a traversal that found a thread hands over.
pub record Found (out : List ℕ) (now : Progress) (place k : ℕ) (ms : List Message) : Type 0 where
  pub off : now.going ≡ false
  pub mark : now.mark ≡ place + 1
  pub next : now.names ≡ k
  pub messages : Stands out now.sent (encode_messages ms) now.state.end

pub record Over (now : Progress) : Type 0 where
  pub off : now.going ≡ false
  pub mark : now.mark ≡ 0

abbrev pub RepresentsResult : (s out : List ℕ) → Progress → TraversalResult → Type 0
RepresentsResult s out now (going g) = Represents s out now g
RepresentsResult s out now over_limit = Over now
RepresentsResult s out now (found place k ms) = Found out now place k ms
