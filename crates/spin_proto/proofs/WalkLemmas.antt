-- A walk under way: what it went over and what is left are together the whole.
use Rattle.std.proofs.Common.{◌≡◌, ◌+◌, ◌<◌, List, [], ◌++◌, map, cond, refl, sym, ap, ◌∙◌, append_assoc, arith}
use Rattle.std.specs.List.{flat_map}
use Rattle.std.proofs.lemmas.List.{append-nil, map-append}
use Rattle.std.proofs.lemmas.Grind.{flat_map-append}
use Rattle.std.proofs.lemmas.List.Sums.{sum_by-append}
use Rattle.spin_proto.specs.declared.walk.Walk.{Walk}
use Rattle.spin_proto.specs.Whole.{Mark, step_of, calls_of, is_start, starts}
use Rattle.spin_proto.specs.Inner.Walks.{Gained}

pub record Owes (all rest : List Mark) (w_0 w : Walk) : Type 0 where
  pub trace : w.trace ++ map step_of rest ≡ w_0.trace ++ map step_of all
  pub jobs : w.jobs ++ flat_map calls_of rest ≡ w_0.jobs ++ flat_map calls_of all
  pub left : w_0.left + starts rest ≡ w.left + starts all

pub owes_all : (all : List Mark) (w : Walk) → Owes all all w w
owes_all all w = record { trace = refl; jobs = refl; left = refl }

pub starts-append : (xs ys : List Mark) → starts (xs ++ ys) ≡ starts xs + starts ys
starts-append xs ys = sum_by-append (λ m. cond (is_start m) 1 0) xs ys

pub owes_on : (all ms rest : List Mark) (w_0 w w' : Walk) → Owes all (ms ++ rest) w_0 w → Gained ms w w' → Owes all rest w_0 w'
owes_on all ms rest w_0 w w' o g = record {
  trace = ap (λ t. t ++ map step_of rest) g.trace ∙ append_assoc w.trace (map step_of ms) (map step_of rest) ∙ ap (λ t. w.trace ++ t) (sym (map-append step_of ms rest)) ∙ o.trace;
  jobs = ap (λ t. t ++ flat_map calls_of rest) g.jobs ∙ append_assoc w.jobs (flat_map calls_of ms) (flat_map calls_of rest) ∙ ap (λ t. w.jobs ++ t) (sym (flat_map-append calls_of ms rest)) ∙ o.jobs;
  left = omega (arith, o.left, g.left, starts-append ms rest);
}

pub owes_spent : (all ms rest : List Mark) (w_0 w : Walk) → Owes all (ms ++ rest) w_0 w → w.left < starts ms → w_0.left < starts all
owes_spent all ms rest w_0 w o h = omega (arith, o.left, h, starts-append ms rest)

pub owes_none : (all : List Mark) (w_0 w : Walk) → Owes all [] w_0 w → Gained all w_0 w
owes_none all w_0 w o = record {
  trace = sym (append-nil w.trace) ∙ o.trace;
  jobs = sym (append-nil w.jobs) ∙ o.jobs;
  left = omega (arith, o.left);
}
