-- The import for a host in C (02, 2026-02): the machine line that it stands for, on a page.
use Rattle.std.specs.Prelude.{ℕ, List, Result, Ok, Err}
use Rattle.gmf.specs.declared.Machine.{Machine}
use Rattle.hexadecimal.specs.Text.{line_of}
use Rattle.line_writer.specs.Page.{Reply, written}
use Rattle.frame_writer.specs.Frames.{machine_bytes}
use Rattle.refusals.specs.declared.Refusal.{Refusal}
use Rattle.refusals.specs.Numbers.{refusal_number}
use Rattle.imports.specs.Imports.{import_reply}

-- The line that opens a machine: frame 01 and its 0A.
unfoldable pub machine_line : Machine → List ℕ
machine_line M = line_of (machine_bytes M.processors M.levels M.lowest M.step)

-- An import's answer on a page: its refusal, and the page as lent; otherwise the line of the machine, from the place on, or 6.
unfoldable pub put_machine : Result (Unit {0}) Refusal → Machine → List ℕ → ℕ → Reply
put_machine (Ok accepted) M page place = written page place (machine_line M)
put_machine (Err refusal) M page place = record { number = refusal_number refusal; page = page }

-- The library's import, with the machine that its roster has.
unfoldable pub imported_on : ℕ → List ℕ → List ℕ → ℕ → Reply
imported_on processors list page place =
    let reply = import_reply processors list in
    put_machine reply.answer reply.roster.machine page place
