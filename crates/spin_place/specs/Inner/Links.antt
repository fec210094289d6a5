-- What the bindings say of each other by their numbers.
use Rattle.std.specs.Prelude.{ℕ, ◌+◌, Bool, not, ◌&&◌, ◌==◌, if◌then◌else◌, List, count_by, sum_by}
use Rattle.spin_word.specs.Commands.{no_number}
use Rattle.spin_place.specs.declared.binding.Binding.{Binding}
use Rattle.spin_place.specs.declared.links.Link.{Link}

-- what a binding of the first number names is a binding, and not itself
abbrev pub names_other : ℕ → ℕ → Bool
names_other n named = not (named == no_number) && not (named == n)

-- how often the binding says that the one of the first number goes before that of the second
abbrev pub said : ℕ → ℕ → Binding → ℕ
said m n b =
    count_by (λ named. names_other b.number named && (m == b.number && named == n)) b.before
    + count_by (λ named. names_other b.number named && (m == named && b.number == n)) b.after

-- how often there is a link from the first number to the second
abbrev pub times_linked : List Link → ℕ → ℕ → ℕ
times_linked links m n = count_by (λ l. m == l.earlier && l.later == n) links

-- how often there is a link to the number
abbrev pub times_led : List Link → ℕ → ℕ
times_led links n = count_by (λ l. l.later == n) links

-- how many links lead to the number from one of these numbers
abbrev pub times_held : List ℕ → List Link → ℕ → ℕ
times_held ms links n = sum_by (λ l. if l.later == n then count_by (λ m. m == l.earlier) ms else 0) links
