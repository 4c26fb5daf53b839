-- `frame_kinds::wanted` meets its contract: nothing follows the kind.
use mathlib.Core.Path.{◌∙◌}
use Rattle.frame_kinds.proofs.Readings.{bare_as}
use Rattle.frame_kinds.proofs.wanted.Goals as goal

pub returns : goal.returns
returns c kind same = c.then_some.ensures ∙ bare_as _ kind _ same _ c.is_empty.ensures
