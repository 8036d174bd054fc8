-- THE SAMPLE SEARCHES FOLLOW FROM THE DEFINITIONS: one computation over the list of them. Assumes nothing.
use Rattle.std.specs.Prelude.{◌≡◌, refl, map}
use Rattle.model.specs.Board.{active?}
use Rattle.model.specs.Samples.{ledger_of}
use Rattle.plan_model.specs.Plans.{fits?, fitted?}
use Rattle.plan_search.specs.Search.{due?, stays?, tries, search}
use Rattle.plan_search.specs.First.{search_all}
use Rattle.plan_search.specs.Samples.{FirstSample, first_outcome, first_samples}

pub searches_right : map (λ (x : FirstSample). first_outcome (ledger_of x.commands) x.ceiling) first_samples ≡ map (λ (x : FirstSample). x.outcome) first_samples
unfolding active? search_all search tries stays? due? fitted? fits?
searches_right = refl
