-- Laws of a table whose first records are replaced: it keeps its length, and one more store replaces one more record. Assumes nothing.
use Rattle.std.specs.Prelude.{◌≡◌, List, ◌++◌, ℕ, suc, ◌<◌, ◌≤◌, ◌+◌, length, set, get_or, take, drop}
use Rattle.std.proofs.Common.{sym, ap, ap₂, ◌∙◌, le_of_lt, add-one, arith, length-append, length-drop, drop-cons, length-take-le, take-suc}
use Rattle.std.proofs.lemmas.List.{set_at}
use Rattle.std.proofs.Math.Seq.{append_snoc}
use Rattle.layout.specs.declared.summary.Summary.{Summary}
use Rattle.layout.specs.Summary.{no_summary, replaced}

pub replaced_length : (n : ℕ) (records old : List Summary) → n ≤ length records → n ≤ length old → length (replaced n records old) ≡ length old
replaced_length n records old enough long =
    length-append (take n records) (drop n old)
    ∙ ap₂ (λ (x y : ℕ). x + y) (length-take-le n records enough) (length-drop n old)
    ∙ omega arith

-- The old record in place i is the first that is left of the old table. The new one, put over it, ends the part that is taken of the new records.
pub replaced_one_more : (i : ℕ) (records old : List Summary) → i < length records → i < length old
    → set (replaced i records old) i (get_or records i no_summary) ≡ replaced (i + 1) records old
replaced_one_more i records old in-records in-old =
    let taken = take i records in
    let new = get_or records i no_summary in
    let rest = drop (suc i) old in
    ap (λ (left : List Summary). set (taken ++ left) i new) (drop-cons old i no_summary in-old)
    ∙ set_at taken (get_or old i no_summary) rest new i (length-take-le i records (le_of_lt in-records))
    ∙ sym (append_snoc taken new rest)
    ∙ ap (λ (first : List Summary). first ++ rest) (sym (take-suc records i no_summary in-records))
    ∙ ap (λ (k : ℕ). replaced k records old) (sym (add-one i))
