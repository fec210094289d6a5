-- Which words begin lines, and in which order lines stand.
use Rattle.std.specs.Prelude.{ℕ, Bool, true, false, not, ◌&&◌, ◌||◌, ◌==◌, nat_lt, List, [], ◌∷◌, codes}
use Rattle.spin_grammar.specs.declared.kind.Kind.{Kind}
use Rattle.spin_grammar.specs.declared.kind.Kind.TheVariants as kind

-- the words that begin lines, each with the kind of line that it begins
abbrev pub first_words : List (List ℕ × Kind)
first_words =
    (codes "lane", kind.Lane)
    ∷ (codes "modules", kind.Modules)
    ∷ (codes "event", kind.Event)
    ∷ (codes "endpoint", kind.Endpoint)
    ∷ (codes "handler", kind.Handler)
    ∷ (codes "guard", kind.Guard)
    ∷ (codes "rule", kind.Rule)
    ∷ (codes "authoriser", kind.Authoriser)
    ∷ (codes "default", kind.Default)
    ∷ (codes "barrier", kind.Barrier)
    ∷ (codes "retire", kind.Retire)
    ∷ []

-- lines stand by rising section
abbrev pub section : Kind → ℕ
section kind.Modules = 1
section kind.Event = 2
section kind.Endpoint = 3
section kind.Handler = 4
section kind.Guard = 5
section kind.Rule = 6
section kind.Authoriser = 6
section kind.Default = 7
section kind.Lane = 8
section kind.Barrier = 8
section kind.Retire = 8

-- a line of this kind retires an endpoint
abbrev pub is_retire : Kind → Bool
is_retire kind.Retire = true
is_retire k = false

-- The line can't stand behind a line of that section, which began a segment or didn't: its section lies before,
-- `modules` stands a second time, or an endpoint isn't retired at once where a segment begins.
abbrev pub is_out_of_order : Kind → ℕ → Bool → Bool
is_out_of_order k before begins =
    nat_lt (section k) before || (section k == 1) && (before == 1) || is_retire k && not begins
