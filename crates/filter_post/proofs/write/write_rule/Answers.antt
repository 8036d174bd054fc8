-- The two copies sweep the rule's call bytes and its row bytes.
use Rattle.std.proofs.Common.{ap, arith, get_or, ◌*◌}
use Rattle.tables.specs.Laws.Part.{swept_part}
use Rattle.filter_post.specs.Write.{Copied}
use Rattle.filter_post.specs.Laws.Write.{written_by}
use Rattle.filter_post.proofs.write.write_rule.Goals as goal

pub returns-clause-written : goal.returns-clause-written
returns-clause-written c =
    let p = c.args.p in
    let rule = c.args.rule.now in
    let calls = c.copy_from_slice.ensures in
    let table = c.copy_from_slice-2.ensures in
    written_by (search) (search) c.requires
    (swept_part 0 (Copied rule.scope) (4 * p) 4 c.args.heads.now.scope _ _ (omega arith) (omega arith) (omega arith) (λ i l. ap (λ b. get_or b i 0) calls.after))
    (swept_part 0 (Copied rule.rows) (256 * p) 256 c.args.rows.now _ _ (omega arith) (omega arith) (omega arith) (λ i l. ap (λ b. get_or b i 0) table.after))
