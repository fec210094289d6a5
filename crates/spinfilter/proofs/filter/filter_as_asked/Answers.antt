use Rattle.std.proofs.Common.{map, refl, sym, subst, ◌∙◌, inl, inr, Option, List}
use Rattle.spin_endpoint.specs.Inner.View.{view_of}
use Rattle.spin_outside.specs.Files.{File}
use Rattle.spin_frames.specs.Written.{with_waiting}
use Rattle.spin_script.specs.Scripts.{script_seen}
use Rattle.spin_script.specs.States.{natives_seen}
use Rattle.spin_filter.specs.Sending.{outlets_at}
use Rattle.spinfilter.specs.Calls.{IsPassed}
use Rattle.spinfilter.proofs.Statuses.{no-counts, all-counts, no-stop, some-end}
use Rattle.spinfilter.proofs.filter.filter_as_asked.Goals as goal

pub returns-in-Err-clause-status : goal.returns-in-Err-clause-status
returns-in-Err-clause-status g c =
    inr (inl (record {
      end = c.in-Err.end;
      status_is = c.stop.ensures.status;
      why = c.in-Err.ensures.refused;
      outlets = refl;
      line = c.stop.ensures.line;
    }))

pub returns-in-Err-clause-flushed : goal.returns-in-Err-clause-flushed
returns-in-Err-clause-flushed g c = λ zero.
    absurd (some-end (natives_seen c.args.natives) (g.F.Shelf.seen c.args.shelf.now) (g.F.Shelf.seen c.script_of.new.shelf) c.args.asked.now.script c.in-Err.end c.in-Err.ensures.refused (sym c.stop.ensures.status ∙ zero))

pub returns-in-Err-pass-clause-status : goal.returns-in-Err-pass-clause-status
returns-in-Err-pass-clause-status g c =
    inr (inr (inl (record {
      why = c.in-Err-pass.stop;
      status_is = c.tell.ensures.status;
      script = script_seen c.in-Ok.script;
      loaded = c.in-Ok.ensures.loaded;
      shelf = g.F.Shelf.seen c.script_of.new.shelf;
      stood = c.in-Ok.ensures.stood;
      stops = c.in-Err-pass.ensures.passed;
      line = c.tell.ensures.line;
    })))

pub returns-in-Err-pass-clause-flushed : goal.returns-in-Err-pass-clause-flushed
returns-in-Err-pass-clause-flushed g c = λ zero. absurd (no-stop c.in-Err-pass.stop (sym c.tell.ensures.status ∙ zero))

pub returns-then-not-asked-clause-status : goal.returns-then-not-asked-clause-status
returns-then-not-asked-clause-status g c =
    let at = λ (o : _). outlets_at (map (view_of (λ e. (goal.Endpoint-dyn g (e.object.vtable, e.object.value)).seen e.object.value)) o.ends.ends.items)
    (with_waiting (g.W.Sink.seen o.file.sink) o.file.waiting) o.counts in
    let script = script_seen c.in-Ok.script in
    let filtered = c.in-Ok-pass.filtered in
    inl (record {
      status_is = refl;
      script = script;
      filtered = filtered;
      loaded = c.in-Ok.ensures.loaded;
      passed = subst (λ (files : Option (List File)). IsPassed script c.args.asked.now files (at c.args.outlets.now) (at c.pass.new.outlets) filtered) c.in-Ok.ensures.stood.files c.in-Ok-pass.ensures.passed;
      told = no-counts c.args.asked.now script filtered (at c.pass.new.outlets) (g.K.Sink.seen c.args.out.now).told c.if-not-asked.true;
    })

pub returns-in-Ok-write_all-clause-status : goal.returns-in-Ok-write_all-clause-status
returns-in-Ok-write_all-clause-status g c =
    let at = λ (o : _). outlets_at (map (view_of (λ e. (goal.Endpoint-dyn g (e.object.vtable, e.object.value)).seen e.object.value)) o.ends.ends.items)
    (with_waiting (g.W.Sink.seen o.file.sink) o.file.waiting) o.counts in
    let script = script_seen c.in-Ok.script in
    let filtered = c.in-Ok-pass.filtered in
    inl (record {
      status_is = refl;
      script = script;
      filtered = filtered;
      loaded = c.in-Ok.ensures.loaded;
      passed = subst (λ (files : Option (List File)). IsPassed script c.args.asked.now files (at c.args.outlets.now) (at c.pass.new.outlets) filtered) c.in-Ok.ensures.stood.files c.in-Ok-pass.ensures.passed;
      told = all-counts c.args.asked.now script filtered (at c.pass.new.outlets) c.as_slice.result.now c.in-Ok-told.text c.as_slice-in-Ok-told.result.now (g.K.Sink.seen c.args.out.now).told (g.K.Sink.seen c.write_all.new.out).told
          c.if-not-asked.false c.as_slice.ensures c.in-Ok-told.ensures c.as_slice-in-Ok-told.ensures c.in-Ok-write_all.ensures.taken;
    })
