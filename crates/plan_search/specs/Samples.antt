-- THE SAMPLE SEARCHES S1 TO S8 (SCOPE 8.53 to 8.60): commands' bytes, a ceiling, and the number, the values and the plan of the answer that is to come of them.
use Rattle.std.specs.Prelude.{List, [], ◌∷◌, ◌++◌, map, ℕ, zero, suc, Ok}
use Rattle.model.specs.Ledger.{Ledger, lengths}
use Rattle.model.specs.Promise.{values_at}
use Rattle.model.specs.Refusals.{first_of}
use Rattle.model.specs.Questions.{board_conditions}
use Rattle.model.specs.Samples.{board_bytes, head_bytes, row_bytes, post_bytes, cancel_bytes, p1_before}
use Rattle.plan_model.specs.Samples.{plan_of}
use Rattle.plan_search.specs.First.{no_plan, board_task, search_all, cut, ended_answer, first_values, first_bytes}

-- number, values and plan of an answer
pub record FirstOutcome : Type 0 where
  pub number : ℕ
  pub values : List ℕ
  pub plan : List ℕ

pub record FirstSample : Type 0 where
  pub commands : List (List ℕ)
  pub ceiling : ℕ
  pub outcome : FirstOutcome

-- the plan's bytes go with the number 0 alone
abbrev pub bytes_at : ℕ → List ℕ → List ℕ
bytes_at zero plan = plan
bytes_at (suc n) plan = no_plan

-- what the definitions give
abbrev pub first_outcome : Ledger → ℕ → FirstOutcome
first_outcome L ceiling =
    let n = first_of (board_conditions L lengths.buffers) in
    let shown = ended_answer ceiling (cut ceiling (search_all (board_task L.board))) in
    record { number = n; values = values_at n (first_values (Ok shown)); plan = bytes_at n (first_bytes (Ok shown)) }

abbrev pub finds_plan : List (List ℕ) → ℕ → List ℕ → ℕ → FirstSample
finds_plan commands ceiling slots count =
    record { commands = commands; ceiling = ceiling; outcome = record { number = 0; values = 1 ∷ count ∷ []; plan = plan_of slots } }

abbrev pub finds_none : List (List ℕ) → ℕ → ℕ → FirstSample
finds_none commands ceiling count =
    record { commands = commands; ceiling = ceiling; outcome = record { number = 0; values = 0 ∷ count ∷ []; plan = no_plan } }

abbrev pub stops_short : List (List ℕ) → ℕ → FirstSample
stops_short commands ceiling =
    record { commands = commands; ceiling = ceiling; outcome = record { number = 0; values = 2 ∷ ceiling ∷ []; plan = no_plan } }

abbrev pub refuses_search : List (List ℕ) → ℕ → ℕ → FirstSample
refuses_search commands ceiling number =
    record { commands = commands; ceiling = ceiling; outcome = record { number = number; values = []; plan = no_plan } }

-- a rule by its number, its calls and its rows; and the two rows that keep two calls of two slots apart
abbrev pub rule_commands : ℕ → List ℕ → List (List ℕ) → List (List ℕ)
rule_commands number scope rows = head_bytes number scope ∷ map row_bytes rows ++ (post_bytes ∷ [])

abbrev pub apart_rows : List (List ℕ)
apart_rows = (0 ∷ 1 ∷ []) ∷ (1 ∷ 0 ∷ []) ∷ []

abbrev pub p1_commands : List (List ℕ)
p1_commands = p1_before ++ (post_bytes ∷ [])

-- three calls of two slots, each two of them apart: every slot is open, and there is no full plan
abbrev pub triangle : List (List ℕ)
triangle =
    (board_bytes (2 ∷ 2 ∷ 2 ∷ []) ∷ rule_commands 0 (0 ∷ 1 ∷ []) apart_rows)
    ++ rule_commands 1 (1 ∷ 2 ∷ []) apart_rows ++ rule_commands 2 (0 ∷ 2 ∷ []) apart_rows

-- the same with a third slot for call 2, which goes with slot 0 of call 1 and with slot 1 of call 0
abbrev pub detour : List (List ℕ)
detour =
    (board_bytes (2 ∷ 2 ∷ 3 ∷ []) ∷ rule_commands 0 (0 ∷ 1 ∷ []) apart_rows)
    ++ rule_commands 1 (1 ∷ 2 ∷ []) (apart_rows ++ ((0 ∷ 2 ∷ []) ∷ [])) ++ rule_commands 2 (0 ∷ 2 ∷ []) (apart_rows ++ ((1 ∷ 2 ∷ []) ∷ []))

-- two calls of two slots, and a rule without rows on call 1
abbrev pub emptied : List (List ℕ)
emptied = board_bytes (2 ∷ 2 ∷ []) ∷ rule_commands 0 (1 ∷ []) []

-- THE LIST. S1 and S2: the first open slot of each call stays, with just enough trials and with one too few. S3: call 0 has slot 0 (trial 1), call 1 slot 0 in vain (2) and
-- slot 1 (3), call 2 both in vain (5); and the same again with slot 1 of call 0 (10). S4 and S5: without call 1, and without any. S6: both slots of call 0 are laid, and
-- none of call 1 is open. S7: slot 0 of call 0 is in vain after six trials; then come slot 1 (7), slot 0 of call 1 (8) and the three slots of call 2 (11). S8: no board
abbrev pub first_samples : List FirstSample
first_samples =
    finds_plan p1_commands 3 (0 ∷ 1 ∷ 0 ∷ []) 3
    ∷ stops_short p1_commands 2
    ∷ finds_none triangle 10 10
    ∷ finds_plan (triangle ++ (cancel_bytes 1 ∷ [])) 100 (0 ∷ 255 ∷ 1 ∷ []) 3
    ∷ finds_plan (triangle ++ (cancel_bytes 0 ∷ cancel_bytes 1 ∷ cancel_bytes 2 ∷ [])) 0 [] 0
    ∷ finds_none emptied 100 2
    ∷ finds_plan detour 4294967295 (1 ∷ 0 ∷ 2 ∷ []) 11
    ∷ refuses_search [] 100 6
    ∷ []
