-- Which rows live after the walk over a rule's rows. Assumes nothing.
use Rattle.std.specs.Prelude.{◌≡◌, List, ℕ, ◌*◌, ◌≤◌, ◌<◌}
use Rattle.std.proofs.Common.{sym, ◌∙◌, ⊎_elim, arith}
use Rattle.tables.specs.Sweep.{Swept}
use Rattle.layout.specs.Places.{killer_of}
use Rattle.tables.specs.Laws.Facts.{eq_or_ne}
use Rattle.filter_support.specs.Rows.{NoneStruck, Killed}

-- those that lived before and hold no struck slot
pub lived : (rows slots scope : List ℕ) (p n m : ℕ) → n ≤ 4 → (killers killed : List ℕ) (w : ℕ) → w < m → Swept 0 (Killed rows slots scope p n) (64 * p) m killers killed
    → killer_of killed p w ≡ 255 → (killer_of killers p w ≡ 255) × NoneStruck rows slots scope p n w
lived rows slots scope p n m few killers killed w lw sw e =
    let x = sw.inside w lw in
    ⊎_elim
    (λ o. ⊎_elim (λ y. (o, y.1)) (λ y. let z = y.0 in absurd (omega (arith, e))) (x.living o))
    (λ ne. absurd (ne (sym (x.dead ne) ∙ e)))
    (eq_or_ne (killer_of killers p w) 255)
