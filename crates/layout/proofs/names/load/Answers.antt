-- The bytes are copied at once.
use Rattle.std.proofs.Common.{◌≡◌, ◌+◌, ◌-◌, ◌∙◌, ℕ, ap, arith, take, drop}
use Rattle.layout.specs.Laws.Names.{bytes_taken}
use Rattle.layout.proofs.names.load.Goals as goal

pub returns : goal.returns
returns g c =
    let names = c.args.names.now in
    let at = c.args.at in
    let e : at + g.row.N - at ≡ g.row.N = omega arith in
    c.copy_from_slice.ensures.after ∙ ap (λ (k : ℕ). take k (drop at names)) e ∙ bytes_taken names at g.row.N (omega (arith, c.type_inv.names, c.requires))
