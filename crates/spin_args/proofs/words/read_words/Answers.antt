use Rattle.std.proofs.Common.{◌∙◌, map, ap}
use Rattle.std.proofs.lemmas.Result.{IfOk-weaker}
use Rattle.spin_args.proofs.ArgumentParsing.{asks, enters, found_is, none_asked_for, none_is}
use Rattle.spin_args.proofs.words.read_words.Goals as goal

pub returns-in_default-2-clause-none : goal.returns-in_default-2-clause-none
returns-in_default-2-clause-none c =
    let plain = rw c.in-Some.is at c.in_ok-plain.ensures.found in
    let fails = rw c.in_default-2.is at c.in_ok-matches.ensures.none in
    none_asked_for c.args.words.now _ plain.1 (ap (map (λ t. t.now)) c.as_slice.ensures.value ∙ plain.0) fails

pub asked_of-requires : goal.asked_of-requires
asked_of-requires c =
    let plain = rw c.in-Some.is at c.in_ok-plain.ensures.found in
    let parsed = rw c.in-Some-2.is at c.in_ok-matches.ensures.found in
    (asks c.args.words.now _ c.in-Some-2.matches _ _ plain.1 (ap (map (λ t. t.now)) c.as_slice.ensures.value ∙ plain.0) parsed
    c.in-Some-subcommand.ensures.name c.in-Some-subcommand.ensures.rows).required

pub returns-in-Some-subcommand-clause-found : goal.returns-in-Some-subcommand-clause-found
returns-in-Some-subcommand-clause-found c =
    let plain = rw c.in-Some.is at c.in_ok-plain.ensures.found in
    let parsed = rw c.in-Some-2.is at c.in_ok-matches.ensures.found in
    let is = asks c.args.words.now _ c.in-Some-2.matches _ _ plain.1 (ap (map (λ t. t.now)) c.as_slice.ensures.value ∙ plain.0) parsed
    c.in-Some-subcommand.ensures.name c.in-Some-subcommand.ensures.rows in
    IfOk-weaker c.asked_of.result _ _ (found_is c.args.words.now _ _ plain.1 is) c.asked_of.ensures

pub returns-in-Some-subcommand-clause-none : goal.returns-in-Some-subcommand-clause-none
returns-in-Some-subcommand-clause-none c =
    let plain = rw c.in-Some.is at c.in_ok-plain.ensures.found in
    let parsed = rw c.in-Some-2.is at c.in_ok-matches.ensures.found in
    let is = asks c.args.words.now _ c.in-Some-2.matches _ _ plain.1 (ap (map (λ t. t.now)) c.as_slice.ensures.value ∙ plain.0) parsed
    c.in-Some-subcommand.ensures.name c.in-Some-subcommand.ensures.rows in
    IfOk-weaker c.asked_of.result _ _ (none_is c.args.words.now _ _ is) c.asked_of.ensures

pub returns-clause-none : goal.returns-clause-none
returns-clause-none c =
    let plain = rw c.in-Some.is at c.in_ok-plain.ensures.found in
    let parsed = rw c.in-Some-2.is at c.in_ok-matches.ensures.found in
    λ asked is. enters c.args.words.now _ c.in-Some-2.matches plain.1 (ap (map (λ t. t.now)) c.as_slice.ensures.value ∙ plain.0) parsed c.in-None.ensures.name
