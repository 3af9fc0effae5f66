-- Names of objects on the command line.
use Rattle.std.specs.Prelude.{◌≡◌, ℕ, List, Option, Some, None}
use Rattle.std.specs.Borrow.{Bor}
use Rattle.object_library.specs.Names.{object_name}
use Rattle.object_library.specs.declared.kind.Kind.{Kind}

-- no object has this name
abbrev pub IsNoObject : List ℕ → Type 0
IsNoObject name = (kind : Kind) → name ≡ object_name kind → ⊥

-- the rule is that of the named object, or none if none is named
abbrev pub IsRule : Option (Bor (List ℕ)) → Option Kind → Type 0
IsRule None rule = rule ≡ None
IsRule (Some name) None = ⊥
IsRule (Some name) (Some kind) = name.now ≡ object_name kind
