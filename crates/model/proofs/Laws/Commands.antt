-- A COMMAND'S BYTES. Assumes nothing.
use Rattle.std.specs.Prelude.{Bool, true, false, cond, ℕ, ◌≤◌, eqb}
use Rattle.std.proofs.Common.{arith}
use Rattle.model.specs.Commands.{body_size}

cond_most : (b : Bool) (x y m : ℕ) → x ≤ m → y ≤ m → cond b x y ≤ m
cond_most true x y m h k = h
cond_most false x y m h k = k

-- no kind has a body of more than 32 bytes
pub body_most : (k : ℕ) → body_size k ≤ 32
body_most k =
    cond_most (eqb k 1) 32 _ 32 (omega arith)
    (cond_most (eqb k 2) 6 _ 32 (omega arith)
    (cond_most (eqb k 3) 4 _ 32 (omega arith)
    (cond_most (eqb k 5) 1 _ 32 (omega arith)
    (cond_most (eqb k 6) 5 _ 32 (omega arith)
    (cond_most (eqb k 7) 1 _ 32 (omega arith) (cond_most (eqb k 8) 1 _ 32 (omega arith) (cond_most (eqb k 9) 1 0 32 (omega arith) (omega arith))))))))
