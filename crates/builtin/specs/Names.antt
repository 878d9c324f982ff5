-- The built-in names, in their order.
use Rattle.std.specs.Prelude.{ℕ, List, [], ◌∷◌, codes}

-- 37 filters
unfoldable pub filter_names : List (List ℕ)
filter_names =
    codes "safe" ∷ codes "default" ∷ codes "upper" ∷ codes "lower" ∷ codes "wordcount" ∷ codes "escape" ∷
    codes "escape_html" ∷ codes "escape_xml" ∷ codes "newlines_to_br" ∷ codes "pluralize" ∷ codes "trim" ∷
    codes "trim_start" ∷ codes "trim_end" ∷ codes "replace" ∷ codes "capitalize" ∷ codes "title" ∷
    codes "truncate" ∷ codes "indent" ∷ codes "str" ∷ codes "int" ∷ codes "float" ∷ codes "length" ∷
    codes "reverse" ∷ codes "split" ∷ codes "abs" ∷ codes "round" ∷ codes "first" ∷ codes "last" ∷
    codes "nth" ∷ codes "join" ∷ codes "sort" ∷ codes "unique" ∷ codes "get" ∷ codes "values" ∷
    codes "keys" ∷ codes "pairs" ∷ codes "group_by" ∷ []

-- 17 tests
unfoldable pub test_names : List (List ℕ)
test_names =
    codes "string" ∷ codes "number" ∷ codes "map" ∷ codes "bool" ∷ codes "array" ∷ codes "integer" ∷
    codes "float" ∷ codes "none" ∷ codes "iterable" ∷ codes "defined" ∷ codes "undefined" ∷ codes "odd" ∷
    codes "even" ∷ codes "divisible_by" ∷ codes "starting_with" ∷ codes "ending_with" ∷ codes "containing" ∷ []

-- 2 functions
unfoldable pub function_names : List (List ℕ)
function_names =
    codes "range" ∷ codes "throw" ∷ []
