-- `index_process::index::build` meets its contract: the model is put in its place, and indexed there.
use Rattle.std.proofs.Common.{rules}
use Rattle.index_process.proofs.Laws.Index.{built}
use Rattle.index_process.proofs.index.build.Goals as goal

pub returns-clause-builds : goal.returns-clause-builds
returns-clause-builds c = search (rules, built)
