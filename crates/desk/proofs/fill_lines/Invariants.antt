-- `desk::fill_lines` meets its contract.
use Rattle.std.proofs.Common.{◌≡◌, ◌-◌, length}
use Rattle.refusals.specs.Numbers.{refusal_number}
use Rattle.calls.specs.Lines.{malformed_number}
use Rattle.calls.proofs.Standing.{Stands}
use Rattle.desk.proofs.Pages.{FillingOn}
use Rattle.desk.proofs.fill_lines.Given as goal

abbrev pub invariant-loop-at : goal.invariant-loop-at
invariant-loop-at l =
    FillingOn record { roster = l.initial.roster; at = l.initial.at; line = l.initial.line } l.sheet l.initial.page l.page l.roster l.at l.line l.end
    × Stands l.roster
    × (refusal_number l.refusal ≡ malformed_number l.roster)

abbrev pub decreases-loop-at : goal.decreases-loop-at
decreases-loop-at l = length l.sheet - l.at
