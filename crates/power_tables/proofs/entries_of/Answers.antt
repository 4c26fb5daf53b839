-- `power_tables::entries_of` meets its contract.
use Rattle.power_tables.proofs.Entries.{first_entries}
use Rattle.power_tables.proofs.entries_of.Goals as goal

pub returns : goal.returns
returns c = rw c.copy_from_slice.ensures.after (first_entries c.args.numbers.now c.min-count.result c.min-count.ensures)
