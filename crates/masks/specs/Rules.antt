-- The rules on each call as masks of 64 bits, and the pending rules as one such mask.
use Rattle.std.specs.Prelude.{◌≡◌, List, ◌⊎◌, ℕ, ◌<◌, Option, Some, None, length, get_or}
use Rattle.tables.specs.Masks.{bit_of, Has, IsMask}
use Rattle.layout.specs.Places.{call_of, columns_of}
use Rattle.layout.specs.declared.value.Heads.{Heads}

-- one of the first n columns of rule q is on a call of C
abbrev pub OnCalls : (ℕ → Type 0) → List ℕ → ℕ → ℕ → Type 0
OnCalls C scope q n = (k : ℕ) × (k < n) × C (call_of scope q k)

-- rule q has a column on call c
abbrev pub OnCall : List ℕ → List ℕ → ℕ → ℕ → Type 0
OnCall arity scope c q = OnCalls (λ d. d ≡ c) scope q (columns_of arity q)

-- THE RULES ON EACH CALL: entry c is the mask of those among the first n rules that have a column on call c
pub record RulesTo (arity scope : List ℕ) (n : ℕ) (on : List ℕ) : Type 0 where
  pub size : length on ≡ 32
  pub each : (c : ℕ) → c < 32 → IsMask (OnCall arity scope c) n (get_or on c 0)

abbrev pub RulesOn : Heads → List ℕ → Type 0
RulesOn heads on = RulesTo heads.arity heads.scope 64 on

-- rule s joins the mask of call c for each c and s of Q, and nothing else changes
pub record Inserted (Q : ℕ → ℕ → Type 0) (old new : List ℕ) : Type 0 where
  pub size : length new ≡ length old
  pub stays : (c s : ℕ) → Has (get_or old c 0) s → Has (get_or new c 0) s
  pub joins : (c s : ℕ) → Q c s → Has (get_or new c 0) s
  pub only : (c s : ℕ) → Has (get_or new c 0) s → Has (get_or old c 0) s ⊎ Q c s

-- it is rule q on the call of one of its n columns
abbrev pub ScopeRule : List ℕ → ℕ → ℕ → ℕ → ℕ → Type 0
ScopeRule scope q n c s = (s ≡ q) × OnCalls (λ d. d ≡ c) scope q n

-- rule p left the mask of every call, and no other did
pub record RuleDropped (p : ℕ) (old new : List ℕ) : Type 0 where
  pub size : length new ≡ length old
  pub kept : (c q : ℕ) → c < 32 → q < 64 → (q ≡ p → ⊥) → Has (get_or old c 0) q → Has (get_or new c 0) q
  pub only : (c q : ℕ) → c < 32 → Has (get_or new c 0) q → Has (get_or old c 0) q × (q ≡ p → ⊥)

-- rule q is on a call of the mask
abbrev pub OnAny : List ℕ → ℕ → ℕ → Type 0
OnAny on calls q = (c : ℕ) × (c < 32) × Has calls c × Has (get_or on c 0) q

-- r is the mask of the rules on the calls of the mask
pub record RulesOnAny (on : List ℕ) (calls r : ℕ) : Type 0 where
  pub has : (q : ℕ) → OnAny on calls q → Has r q
  pub only : (q : ℕ) → Has r q → OnAny on calls q

-- r is m without p
pub record Without (p m r : ℕ) : Type 0 where
  pub gone : bit_of r p ≡ 0
  pub others : (q : ℕ) → q < 64 → (q ≡ p → ⊥) → bit_of r q ≡ bit_of m q

-- r has the pending rules and those on the calls of the mask, all but p
pub record Enqueues (on : List ℕ) (calls p pending r : ℕ) : Type 0 where
  pub kept : (q : ℕ) → (q ≡ p → ⊥) → Has pending q → Has r q
  pub joins : (q : ℕ) → (q ≡ p → ⊥) → OnAny on calls q → Has r q
  pub only : (q : ℕ) → Has r q → (q ≡ p → ⊥) × (Has pending q ⊎ OnAny on calls q)

-- r is a pending rule, or none where none is
abbrev pub NextRule : ℕ → Option ℕ → Type 0
NextRule pending (Some p) = (p < 64) × Has pending p
NextRule pending None = pending ≡ 0
