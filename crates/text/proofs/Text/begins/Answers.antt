-- What it holds, against as many of the bytes. Assumes nothing.
use Rattle.text.proofs.Phrases.{begins_with}
use Rattle.text.proofs.Text.begins.Goals as goal

pub returns : goal.returns
returns c = begins_with _ _ c.held.ensures c.starts_with.ensures.value
