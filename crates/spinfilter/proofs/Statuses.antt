-- What the call comes to, by its status.
use Rattle.std.proofs.Common.{◌≡◌, ℕ, true, false, List, [], Option, sym, ap, subst, ◌∙◌, arith, if◌then◌else◌}
use Rattle.std.specs.Io.KnownBytes.{Appends}
use Rattle.std.proofs.KnownBytes.{Appends-nil}
use Rattle.spin_outside.specs.Seen.{ShelfSeen}
use Rattle.spin_script.specs.States.{NativeData, ScriptData}
use Rattle.spin_filter.specs.declared.filter.Filtered.{Filtered}
use Rattle.spin_filter.specs.declared.stop.Stop.{Stop}
use Rattle.spin_filter.specs.declared.stop.Stop.TheVariants as stop
use Rattle.spin_filter.specs.Sending.{OutletsAt}
use Rattle.spin_inputs.specs.declared.end.End.{End}
use Rattle.spin_inputs.specs.declared.end.End.TheVariants.{Whole, Usage, Refused, Capture, Unread, WriteFault, Absent}
use Rattle.spin_inputs.specs.declared.end.End.TheVariants.{NoMemory, Endpoint, NoHistory, LongReport, Trace, Unsuited}
use Rattle.spin_inputs.specs.Ends.{exit_status}
use Rattle.spin_inputs.specs.Loading.{NoScriptBy}
use Rattle.spinfilter.specs.declared.words.Asked.{Asked}
use Rattle.spinfilter.specs.Calls.{told_by}
use Rattle.spinfilter.specs.Ends.{stop_status}
use Rattle.spinfilter.specs.Told.{counts_text}

-- ---- the counts

pub no-counts : (asked : Asked) (script : ScriptData) (filtered : Filtered) (after : OutletsAt) (told : Option (List ℕ)) → asked.counts ≡ false → Appends told told (told_by asked script filtered after)
no-counts asked script filtered after told none =
    subst (λ (bytes : List ℕ). Appends told told bytes) (sym (ap (λ b. if b then counts_text script.endpoints filtered after.counts else []) none)) (Appends-nil told)

pub all-counts : (asked : Asked) (script : ScriptData) (filtered : Filtered) (after : OutletsAt) (names : List (List ℕ)) (text bytes : List ℕ) (told told' : Option (List ℕ)) → asked.counts ≡ true
    → names ≡ script.endpoints → text ≡ counts_text names filtered after.counts → bytes ≡ text → Appends told told' bytes → Appends told told' (told_by asked script filtered after)
all-counts asked script filtered after names text bytes told told' some same is whole appended =
    let own = whole ∙ is ∙ ap (λ ns. counts_text ns filtered after.counts) same in
    let asks = ap (λ b. if b then counts_text script.endpoints filtered after.counts else []) some in
    subst (λ (bs : List ℕ). Appends told told' bs) (own ∙ sym asks) appended

-- ---- status 0

pub no-stop : (why : Stop) → stop_status why ≡ 0 → ⊥
no-stop (stop.Capture number wrong) is = absurd (omega (arith, is))
no-stop stop.Unread is = absurd (omega (arith, is))
no-stop stop.WriteFault is = absurd (omega (arith, is))
no-stop stop.Absent is = absurd (omega (arith, is))
no-stop stop.NoMemory is = absurd (omega (arith, is))
no-stop (stop.Endpoint number) is = absurd (omega (arith, is))
no-stop stop.Retires is = absurd (omega (arith, is))
no-stop stop.Segments is = absurd (omega (arith, is))
no-stop (stop.Lane number) is = absurd (omega (arith, is))
no-stop (stop.InTheWay number) is = absurd (omega (arith, is))
no-stop stop.NoRecords is = absurd (omega (arith, is))
no-stop (stop.NoFrame number) is = absurd (omega (arith, is))

pub some-end : (natives : NativeData) (before after : ShelfSeen) (name : List ℕ) (end : End) → NoScriptBy natives before after name end → exit_status end ≡ 0 → ⊥
some-end natives before after name Whole lacks is = absurd lacks.0
some-end natives before after name Usage lacks is = absurd lacks.0
some-end natives before after name (Refused line cause) lacks is = absurd (omega (arith, is))
some-end natives before after name (Capture at fault) lacks is = absurd lacks.0
some-end natives before after name (Unread file) lacks is = absurd (omega (arith, is))
some-end natives before after name WriteFault lacks is = absurd lacks.0
some-end natives before after name (Absent file) lacks is = absurd (omega (arith, is))
some-end natives before after name NoMemory lacks is = absurd (omega (arith, is))
some-end natives before after name (Endpoint at) lacks is = absurd lacks.0
some-end natives before after name NoHistory lacks is = absurd lacks.0
some-end natives before after name LongReport lacks is = absurd lacks.0
some-end natives before after name (Trace line cause) lacks is = absurd lacks.0
some-end natives before after name Unsuited lacks is = absurd lacks.0
