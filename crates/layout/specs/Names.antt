-- THE NAMES OF THE MARKS (SCOPE 2.11): what is held of each beside the value, a byte that says whether a board is kept, and its calls and rule heads. They lie one behind
-- the other, and so do the fields of each.
use Rattle.std.specs.Prelude.{cond, List, [], ◌∷◌, ◌++◌, ℕ, zero, suc, ◌+◌, ◌*◌, ◌-◌, get_or, set, replicate, eqb, ltb}
use Rattle.layout.specs.declared.value.Heads.{Heads}
use Rattle.layout.specs.declared.names.MarkedValue.{MarkedValue}
use Rattle.layout.specs.Value.{fresh_heads, fresh_value}

-- WHAT IS HELD OF A NAME
pub record Mark : Type 0 where
  -- 1 where a board is kept, 0 where none is
  pub kept : ℕ
  -- its calls and the heads of its rules
  pub heads : Heads

-- nothing is kept, and the heads are the fixed ones; or a board of these heads is
abbrev pub no_mark : Mark
no_mark = record { kept = 0; heads = fresh_heads }

abbrev pub mark_of : Heads → Mark
mark_of heads = record { kept = 1; heads = heads }

-- ITS BYTES
abbrev pub name_length : ℕ
name_length = 417

abbrev pub names_length : ℕ
names_length = 834

abbrev pub name_start : ℕ → ℕ
name_start name = name_length * name

abbrev pub name_byte : Mark → ℕ → ℕ
name_byte m i =
    cond (eqb i 0) m.kept
    (cond (ltb i 33) (get_or m.heads.counts (i - 1) 0)
    (cond (ltb i 97) (get_or m.heads.arity (i - 33) 0)
    (cond (ltb i 353) (get_or m.heads.scope (i - 97) 0)
    (get_or m.heads.lengths (i - 353) 0))))

-- n bytes written one by one from a place on; and n numbers in a list
abbrev pub written : (ℕ → ℕ) → ℕ → ℕ → List ℕ → List ℕ
written f at zero l = l
written f at (suc n) l = set (written f at n l) (at + n) (f n)

abbrev pub listed : (ℕ → ℕ) → ℕ → List ℕ
listed f zero = []
listed f (suc n) = listed f n ++ (f n ∷ [])

-- THE MARK UNDER A NAME, and the names with another one there
abbrev pub bytes_from : List ℕ → ℕ → ℕ → List ℕ
bytes_from names at n = listed (λ i. get_or names (at + i) 0) n

abbrev pub heads_under : List ℕ → ℕ → Heads
heads_under names name =
    let at = name_start name in
    record { counts = bytes_from names (at + 1) 32; arity = bytes_from names (at + 33) 64; scope = bytes_from names (at + 97) 256; lengths = bytes_from names (at + 353) 64 }

abbrev pub mark_under : List ℕ → ℕ → Mark
mark_under names name = record { kept = get_or names (name_start name) 0; heads = heads_under names name }

unfoldable pub with_mark_under : List ℕ → ℕ → Mark → List ℕ
with_mark_under names name m = written (name_byte m) (name_start name) name_length names

-- NOTHING IS KEPT under either name
abbrev pub no_names : List ℕ
no_names = with_mark_under (with_mark_under (replicate names_length 0) 0 no_mark) 1 no_mark

-- all that is held, before the first command
abbrev pub fresh_marked : MarkedValue
fresh_marked = record { value = fresh_value; names = no_names }
