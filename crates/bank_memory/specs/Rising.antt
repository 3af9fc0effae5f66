-- The order of a bank's accesses, as a test.
use Rattle.std.specs.Prelude.{Bool, true, not, ◌&&◌, ◌||◌, ◌==◌, nat_lt, List, [], ◌∷◌}
use Rattle.bank_laws.specs.declared.access.LoggedAccess.{LoggedAccess}
use Rattle.bank_laws.specs.Order.{is_code_read}

-- whether an access comes before another
abbrev pub is_before : LoggedAccess → LoggedAccess → Bool
is_before a c = nat_lt a.stamp c.stamp
    || (a.stamp == c.stamp && (a.hart == c.hart && (is_code_read a.kind && not (is_code_read c.kind))))

-- whether it comes after each of a list
unfoldable pub may_follow : List LoggedAccess → LoggedAccess → Bool
may_follow [] c = true
may_follow (a ∷ log) c = is_before a c && may_follow log c

-- whether it comes before each of a list
unfoldable pub may_lead : LoggedAccess → List LoggedAccess → Bool
may_lead a [] = true
may_lead a (c ∷ log) = is_before a c && may_lead a log

-- whether each comes before all later ones
unfoldable pub rises : List LoggedAccess → Bool
rises [] = true
rises (a ∷ log) = may_lead a log && rises log
