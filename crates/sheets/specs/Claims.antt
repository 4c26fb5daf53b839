-- Known results of the desk's sheets. Their proof is proofs/AcceptanceTrials.antt.
use Rattle.std.specs.Prelude.{◌≡◌, ℕ, List, [], ◌∷◌, ◌++◌, take}
use Rattle.frame_reader.specs.Claims.{example_sheet}
use Rattle.sheets.specs.Sheets.{desk_sheet}

-- 01's sheet to its sixth line, and then 07.
unfoldable pub slack_sheet : List ℕ
slack_sheet = take 90 example_sheet ++ (48 ∷ 55 ∷ 10 ∷ [])

pub record SheetTrials : Type 0 where
  -- "… prints exactly: 8E0000000711, 81050000000A000000A3000903030201".
  pub example : desk_sheet example_sheet
      ≡ 56 ∷ 69 ∷ 48 ∷ 48 ∷ 48 ∷ 48 ∷ 48 ∷ 48 ∷ 48 ∷ 55 ∷ 49 ∷ 49 ∷ 10
      ∷ 56 ∷ 49 ∷ 48 ∷ 53 ∷ 48 ∷ 48 ∷ 48 ∷ 48 ∷ 48 ∷ 48 ∷ 48 ∷ 65 ∷ 48 ∷ 48 ∷ 48 ∷ 48 ∷ 48 ∷ 48 ∷ 65 ∷ 51 ∷ 48 ∷ 48 ∷ 48 ∷ 57
      ∷ 48 ∷ 51 ∷ 48 ∷ 51 ∷ 48 ∷ 50 ∷ 48 ∷ 49 ∷ 10 ∷ []
  -- An empty sheet; one 0A, and 05 with no 0A after it: 8E0000000105.
  pub empty : desk_sheet [] ≡ []
  pub one_line_feed : desk_sheet (10 ∷ []) ≡ 56 ∷ 69 ∷ 48 ∷ 48 ∷ 48 ∷ 48 ∷ 48 ∷ 48 ∷ 48 ∷ 49 ∷ 48 ∷ 53 ∷ 10 ∷ []
  pub unclosed : desk_sheet (48 ∷ 53 ∷ []) ≡ 56 ∷ 69 ∷ 48 ∷ 48 ∷ 48 ∷ 48 ∷ 48 ∷ 48 ∷ 48 ∷ 49 ∷ 48 ∷ 53 ∷ 10 ∷ []
  -- The same without line 7, and with 07 for 05: the slack of the plan.
  pub slack : desk_sheet slack_sheet
      ≡ 56 ∷ 51
      ∷ 48 ∷ 48 ∷ 48 ∷ 48 ∷ 48 ∷ 48 ∷ 48 ∷ 48 ∷ 48 ∷ 48 ∷ 48 ∷ 48 ∷ 48 ∷ 48 ∷ 48 ∷ 48 ∷ 48 ∷ 48
      ∷ 48 ∷ 48 ∷ 48 ∷ 48 ∷ 48 ∷ 48 ∷ 48 ∷ 48 ∷ 48 ∷ 48 ∷ 48 ∷ 48 ∷ 48 ∷ 48 ∷ 48 ∷ 49 ∷ 48 ∷ 48
      ∷ 48 ∷ 48 ∷ 48 ∷ 48 ∷ 48 ∷ 48 ∷ 48 ∷ 48 ∷ 48 ∷ 48 ∷ 48 ∷ 48 ∷ 48 ∷ 48 ∷ 48 ∷ 50 ∷ 48 ∷ 50
      ∷ 48 ∷ 48 ∷ 48 ∷ 48 ∷ 48 ∷ 48 ∷ 48 ∷ 48 ∷ 48 ∷ 48 ∷ 48 ∷ 48 ∷ 48 ∷ 48 ∷ 48 ∷ 49 ∷ 48 ∷ 50
      ∷ 10 ∷ []
  -- 05 with no machine, and 07: 8E000000010B.
  pub no_machine : desk_sheet (48 ∷ 53 ∷ 10 ∷ []) ≡ 56 ∷ 69 ∷ 48 ∷ 48 ∷ 48 ∷ 48 ∷ 48 ∷ 48 ∷ 48 ∷ 49 ∷ 48 ∷ 66 ∷ 10 ∷ []
  pub no_slack_law : desk_sheet (48 ∷ 55 ∷ 10 ∷ []) ≡ 56 ∷ 69 ∷ 48 ∷ 48 ∷ 48 ∷ 48 ∷ 48 ∷ 48 ∷ 48 ∷ 49 ∷ 48 ∷ 66 ∷ 10 ∷ []
