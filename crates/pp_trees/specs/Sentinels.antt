-- How the pool of a tree opens: the root R, its left child S, and the leaves inf0, inf1 and inf2.
use Rattle.std.specs.Prelude.{ℕ, zero, suc, ◌%◌, Bool, true, false, cond, nat_eq, []}
use Rattle.pp_model.specs.declared.Call.TheVariants.{Get}
use Rattle.pp_trees.specs.Trees.{inf0, inf1, inf2}
use Rattle.pp_trees.specs.Searches.{TreeOwn}

abbrev pub sentinel_key : ℕ → ℕ
sentinel_key zero = 0
sentinel_key (suc zero) = inf2
sentinel_key (suc (suc zero)) = inf1
sentinel_key (suc (suc (suc zero))) = inf0
sentinel_key (suc (suc (suc (suc zero)))) = inf1
sentinel_key (suc (suc (suc (suc (suc n))))) = inf2

-- R leads to S on the left, and S to the leaf inf0
abbrev pub sentinel_left : ℕ → ℕ
sentinel_left zero = 0
sentinel_left (suc zero) = 32
sentinel_left (suc (suc zero)) = 56
sentinel_left (suc (suc (suc n))) = 0

-- R leads to the leaf inf2 on the right, and S to the leaf inf1
abbrev pub sentinel_right : ℕ → ℕ
sentinel_right zero = 0
sentinel_right (suc zero) = 88
sentinel_right (suc (suc zero)) = 72
sentinel_right (suc (suc (suc n))) = 0

-- a field of a sentinel
abbrev pub sentinel_field : ℕ → ℕ → ℕ
sentinel_field n zero = sentinel_key n
sentinel_field n (suc zero) = 0
sentinel_field n (suc (suc zero)) = sentinel_left n
sentinel_field n (suc (suc (suc zero))) = sentinel_right n
sentinel_field n (suc (suc (suc (suc f)))) = 0

-- no call was begun
abbrev pub fresh_own : TreeOwn
fresh_own = record { going = false; call = Get 0; start = 0; at = 5; top = 5; path = []; flag = 2; beside = 0; left = [] }

-- an edge with FLAG or TAG
abbrev pub has_mark : ℕ → Bool
has_mark w = cond (nat_eq (w % 4) 0) false true
