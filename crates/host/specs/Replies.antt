-- A reply as C sees it: a number, and the page after the call.
use Rattle.std.specs.Prelude.{ℕ, List}
use Rattle.line_writer.specs.Page.{Reply}

abbrev pub replied_on : ℕ → List ℕ → Reply
replied_on number page = record { number = number; page = page }
