-- ALL RECORDS REPLACED are the new ones. Assumes nothing.
use Rattle.std.specs.Prelude.{◌≡◌, refl, List, [], ◌∷◌, ◌++◌, ℕ, length, take, drop}
use Rattle.std.proofs.Common.{sym, ap, ◌∙◌, append-nil}
use Rattle.layout.specs.declared.summary.Summary.{Summary}
use Rattle.layout.specs.Summary.{replaced}

take_all : (records : List Summary) → take (length records) records ≡ records
take_all [] = refl
take_all (x ∷ xs) = ap (λ (l : List Summary). x ∷ l) (take_all xs)

drop_all : (old : List Summary) → drop (length old) old ≡ []
drop_all [] = refl
drop_all (x ∷ xs) = drop_all xs

pub replaced_all : (n : ℕ) (records old : List Summary) → length records ≡ n → length old ≡ n → replaced n records old ≡ records
replaced_all n records old e e' =
    ap (λ (k : ℕ). take k records ++ drop n old) (sym e) ∙ ap (λ (l : List Summary). l ++ drop n old) (take_all records)
    ∙ ap (λ (k : ℕ). records ++ drop k old) (sym e') ∙ ap (λ (l : List Summary). records ++ l) (drop_all old) ∙ append-nil records
