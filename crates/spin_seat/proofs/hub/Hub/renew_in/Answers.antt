use Rattle.std.proofs.Common.{◌≡◌, ◌∙◌, List, [], sym, ap, subst, get_or, refl, arith}
use Rattle.std.specs.Prelude.{All, None, map}
use Rattle.spin_log.specs.Pens.{LogValue, PenValue, new_pens}
use Rattle.spin_table.specs.SetupOf.{data_of}
use Rattle.spin_table.specs.Renewals.{renewed}
use Rattle.spin_seat.specs.Seats.{SeatValue, IsSeatFrom, AreFrom}
use Rattle.spin_seat.specs.RenewedHubs.{KnowMore, IsFaultOf}
use Rattle.spin_seat.proofs.ClosedLogs.{Closed, closed_clean, closed_legal}
use Rattle.spin_seat.proofs.SeatRenewals.{taken, know_taken, still_own, still_order, still_all, new_all, is_renewal, closed_before, history_before}
use Rattle.spin_seat.proofs.HomeSeats.{key_from, one_first}
use Rattle.spin_seat.proofs.hub.Hub.renew_in.Goals as goal

pub go_on-requires-clause-own : goal.go_on-requires-clause-own
go_on-requires-clause-own g c =
    let d = data_of c.args.self.now.setup in
    let more = c.in-Ok.ensures.more in
    let len = c.as_mut_slice.ensures.len in
    let now : c.as_mut_slice.result.now ≡ c.args.seats = c.as_mut_slice.ensures.value ∙ c.into_vec-items.ensures in
    let same : c.from_vec-seats.result ≡ c.prepare-ready.new.seats = taken c.into_vec-items.result.len c.from_vec-seats.result c.prepare-ready.new.seats _ c.from_vec-seats.ensures
    (omega (arith, more.0, len)) in
    let know : KnowMore d c.args.seats c.from_vec-seats.result = know_taken d c.args.seats c.as_mut_slice.result.now c.prepare-ready.new.seats c.from_vec-seats.result now same more in
    still_own d c.args.seats c.from_vec-seats.result (λ (p : PenValue). p.log) c.args.self.now.log.id (λ p front. refl) know c.requires.all.own

pub returns-in-Ok-clause-all : goal.returns-in-Ok-clause-all
returns-in-Ok-clause-all g c =
    let d = data_of c.args.self.now.setup in
    let nobody : SeatValue = record {
      pen = record { log = c.args.self.now.log.id; lanes = 0; lane = 0; front = []; own = []; pins = [] };
      base = c.requires.all.first;
      state = c.requires.all.first;
      tests = [];
      pending = None;
    } in
    let ready = c.in-Ok.ready in
    let done = c.go_on.result in
    let is = c.go_on.ensures in
    let lanes = c.args.self.now.log.lanes in
    let first = renewed (get_or c.prepare-ready.new.seats 0 nobody).state in
    new_all d c.go_on.new.self.log lanes done.seats first c.requires.all.some (ap (λ (l : LogValue). l.lanes) is.hub.0 ∙ c.in-Ok.ensures.lanes)
    (ap (map (λ (s : SeatValue). s.pen)) is.seats ∙ c.in-Ok.ensures.pens ∙ ap (λ (l : LogValue). new_pens l.id lanes) (sym is.hub.0))
    (subst (All (IsSeatFrom d first)) (sym is.seats) (c.in-Ok.ensures.seats nobody))

pub returns-in-Ok-clause-renewed : goal.returns-in-Ok-clause-renewed
returns-in-Ok-clause-renewed g c = λ first from.
    let d = data_of c.args.self.now.setup in
    let more = c.in-Ok.ensures.more in
    let len = c.as_mut_slice.ensures.len in
    let now : c.as_mut_slice.result.now ≡ c.args.seats = c.as_mut_slice.ensures.value ∙ c.into_vec-items.ensures in
    let same : c.from_vec-seats.result ≡ c.prepare-ready.new.seats = taken c.into_vec-items.result.len c.from_vec-seats.result c.prepare-ready.new.seats _ c.from_vec-seats.ensures
    (omega (arith, more.0, len)) in
    let know : KnowMore d c.args.seats c.from_vec-seats.result = know_taken d c.args.seats c.as_mut_slice.result.now c.prepare-ready.new.seats c.from_vec-seats.result now same more in
    let nobody : SeatValue = record {
      pen = record { log = c.args.self.now.log.id; lanes = 0; lane = 0; front = []; own = []; pins = [] };
      base = c.requires.all.first;
      state = c.requires.all.first;
      tests = [];
      pending = None;
    } in
    let all = c.requires.all in
    let some = all.some in
    let met = c.prepare-ready.new.seats in
    let rows = c.go_on.result.rows in
    let lanes = c.args.self.now.log.lanes in
    let is = c.go_on.ensures in
    let know' : KnowMore d c.args.seats met = subst (KnowMore d c.args.seats) same know in
    let closed : Closed lanes met rows = subst (λ (l : List SeatValue). Closed lanes l rows) same
    (record { all = know.0 ∙ all.all; order = still_order d c.args.seats c.from_vec-seats.result know all.order; each = is.each; rows = is.rows.0 }) in
    is_renewal d first lanes c.args.seats met nobody rows c.in-Ok.ready.live c.go_on.result.live c.go_on.result.seats c.in-Ok.ready.seats
    (omega (arith, some, all.all)) from know' c.in-Ok.ensures.knows closed (c.in-Ok.ensures.live nobody) c.in-Ok.ensures.left (c.in-Ok.ensures.seats nobody) is.live is.seats

pub returns-in-Ok-clause-clean : goal.returns-in-Ok-clause-clean
returns-in-Ok-clause-clean g c = λ first from.
    let d = data_of c.args.self.now.setup in
    let more = c.in-Ok.ensures.more in
    let len = c.as_mut_slice.ensures.len in
    let now : c.as_mut_slice.result.now ≡ c.args.seats = c.as_mut_slice.ensures.value ∙ c.into_vec-items.ensures in
    let same : c.from_vec-seats.result ≡ c.prepare-ready.new.seats = taken c.into_vec-items.result.len c.from_vec-seats.result c.prepare-ready.new.seats _ c.from_vec-seats.ensures
    (omega (arith, more.0, len)) in
    let know : KnowMore d c.args.seats c.from_vec-seats.result = know_taken d c.args.seats c.as_mut_slice.result.now c.prepare-ready.new.seats c.from_vec-seats.result now same more in
    let nobody : SeatValue = record {
      pen = record { log = c.args.self.now.log.id; lanes = 0; lane = 0; front = []; own = []; pins = [] };
      base = c.requires.all.first;
      state = c.requires.all.first;
      tests = [];
      pending = None;
    } in
    let all = c.requires.all in
    let rows = c.go_on.result.rows in
    let lanes = c.args.self.now.log.lanes in
    let is = c.go_on.ensures in
    let closed : Closed lanes c.args.seats rows = closed_before d lanes c.args.seats c.from_vec-seats.result rows know
    (record { all = know.0 ∙ all.all; order = still_order d c.args.seats c.from_vec-seats.result know all.order; each = is.each; rows = is.rows.0 }) all.all all.order in
    closed_clean d first lanes c.args.seats rows nobody (λ k s lt. (all.seats_are k s lt).0) from closed

pub returns-in-Ok-clause-legal : goal.returns-in-Ok-clause-legal
returns-in-Ok-clause-legal g c = λ first from.
    let d = data_of c.args.self.now.setup in
    let more = c.in-Ok.ensures.more in
    let len = c.as_mut_slice.ensures.len in
    let now : c.as_mut_slice.result.now ≡ c.args.seats = c.as_mut_slice.ensures.value ∙ c.into_vec-items.ensures in
    let same : c.from_vec-seats.result ≡ c.prepare-ready.new.seats = taken c.into_vec-items.result.len c.from_vec-seats.result c.prepare-ready.new.seats _ c.from_vec-seats.ensures
    (omega (arith, more.0, len)) in
    let know : KnowMore d c.args.seats c.from_vec-seats.result = know_taken d c.args.seats c.as_mut_slice.result.now c.prepare-ready.new.seats c.from_vec-seats.result now same more in
    let nobody : SeatValue = record {
      pen = record { log = c.args.self.now.log.id; lanes = 0; lane = 0; front = []; own = []; pins = [] };
      base = c.requires.all.first;
      state = c.requires.all.first;
      tests = [];
      pending = None;
    } in
    let all = c.requires.all in
    let rows = c.go_on.result.rows in
    let lanes = c.args.self.now.log.lanes in
    let is = c.go_on.ensures in
    let closed : Closed lanes c.args.seats rows = closed_before d lanes c.args.seats c.from_vec-seats.result rows know
    (record { all = know.0 ∙ all.all; order = still_order d c.args.seats c.from_vec-seats.result know all.order; each = is.each; rows = is.rows.0 }) all.all all.order in
    closed_legal d first lanes c.args.seats rows nobody (λ k s lt. (all.seats_are k s lt).0) from closed

pub returns-in-Ok-clause-each : goal.returns-in-Ok-clause-each
returns-in-Ok-clause-each g c =
    let d = data_of c.args.self.now.setup in
    let more = c.in-Ok.ensures.more in
    let len = c.as_mut_slice.ensures.len in
    let now : c.as_mut_slice.result.now ≡ c.args.seats = c.as_mut_slice.ensures.value ∙ c.into_vec-items.ensures in
    let same : c.from_vec-seats.result ≡ c.prepare-ready.new.seats = taken c.into_vec-items.result.len c.from_vec-seats.result c.prepare-ready.new.seats _ c.from_vec-seats.ensures
    (omega (arith, more.0, len)) in
    let know : KnowMore d c.args.seats c.from_vec-seats.result = know_taken d c.args.seats c.as_mut_slice.result.now c.prepare-ready.new.seats c.from_vec-seats.result now same more in
    let all = c.requires.all in
    let rows = c.go_on.result.rows in
    let lanes = c.args.self.now.log.lanes in
    let is = c.go_on.ensures in
    (closed_before d lanes c.args.seats c.from_vec-seats.result rows know
    (record { all = know.0 ∙ all.all; order = still_order d c.args.seats c.from_vec-seats.result know all.order; each = is.each; rows = is.rows.0 }) all.all all.order).each

pub returns-in-Ok-clause-history : goal.returns-in-Ok-clause-history
returns-in-Ok-clause-history g c =
    let d = data_of c.args.self.now.setup in
    let more = c.in-Ok.ensures.more in
    let len = c.as_mut_slice.ensures.len in
    let now : c.as_mut_slice.result.now ≡ c.args.seats = c.as_mut_slice.ensures.value ∙ c.into_vec-items.ensures in
    let same : c.from_vec-seats.result ≡ c.prepare-ready.new.seats = taken c.into_vec-items.result.len c.from_vec-seats.result c.prepare-ready.new.seats _ c.from_vec-seats.ensures
    (omega (arith, more.0, len)) in
    let know : KnowMore d c.args.seats c.from_vec-seats.result = know_taken d c.args.seats c.as_mut_slice.result.now c.prepare-ready.new.seats c.from_vec-seats.result now same more in
    let h = c.go_on.ensures.history in
    (h.0, history_before d c.args.seats c.from_vec-seats.result c.go_on.result.rows h.0 know h.1)

pub returns-in-Err-clause-all : goal.returns-in-Err-clause-all
returns-in-Err-clause-all g c =
    let d = data_of c.args.self.now.setup in
    let more = c.in-Err.ensures.more in
    let len = c.as_mut_slice.ensures.len in
    let now : c.as_mut_slice.result.now ≡ c.args.seats = c.as_mut_slice.ensures.value ∙ c.into_vec-items.ensures in
    let same : c.from_vec-seats.result ≡ c.prepare-ready.new.seats = taken c.into_vec-items.result.len c.from_vec-seats.result c.prepare-ready.new.seats _ c.from_vec-seats.ensures
    (omega (arith, more.0, len)) in
    let know : KnowMore d c.args.seats c.from_vec-seats.result = know_taken d c.args.seats c.as_mut_slice.result.now c.prepare-ready.new.seats c.from_vec-seats.result now same more in
    still_all d c.args.self.now.log c.args.seats c.from_vec-seats.result know c.requires.all

pub returns-in-Err-clause-more : goal.returns-in-Err-clause-more
returns-in-Err-clause-more g c =
    let d = data_of c.args.self.now.setup in
    let more = c.in-Err.ensures.more in
    let len = c.as_mut_slice.ensures.len in
    let now : c.as_mut_slice.result.now ≡ c.args.seats = c.as_mut_slice.ensures.value ∙ c.into_vec-items.ensures in
    let same : c.from_vec-seats.result ≡ c.prepare-ready.new.seats = taken c.into_vec-items.result.len c.from_vec-seats.result c.prepare-ready.new.seats _ c.from_vec-seats.ensures
    (omega (arith, more.0, len)) in
    let know : KnowMore d c.args.seats c.from_vec-seats.result = know_taken d c.args.seats c.as_mut_slice.result.now c.prepare-ready.new.seats c.from_vec-seats.result now same more in
    know

pub returns-in-Err-clause-fault : goal.returns-in-Err-clause-fault
returns-in-Err-clause-fault g c = λ first from.
    let d = data_of c.args.self.now.setup in
    let more = c.in-Err.ensures.more in
    let len = c.as_mut_slice.ensures.len in
    let now : c.as_mut_slice.result.now ≡ c.args.seats = c.as_mut_slice.ensures.value ∙ c.into_vec-items.ensures in
    let same : c.from_vec-seats.result ≡ c.prepare-ready.new.seats = taken c.into_vec-items.result.len c.from_vec-seats.result c.prepare-ready.new.seats _ c.from_vec-seats.ensures
    (omega (arith, more.0, len)) in
    let know : KnowMore d c.args.seats c.from_vec-seats.result = know_taken d c.args.seats c.as_mut_slice.result.now c.prepare-ready.new.seats c.from_vec-seats.result now same more in
    subst (λ (l : List SeatValue). IsFaultOf d first l c.in-Err.fault) (sym same) (c.in-Err.ensures.fault first (subst (AreFrom first) (sym now) from))

pub returns-in-Ok-clause-key : goal.returns-in-Ok-clause-key
returns-in-Ok-clause-key g c = λ first from.
    let d = data_of c.args.self.now.setup in
    let nobody : SeatValue = record {
      pen = record { log = c.args.self.now.log.id; lanes = 0; lane = 0; front = []; own = []; pins = [] };
      base = c.requires.all.first;
      state = c.requires.all.first;
      tests = [];
      pending = None;
    } in
    let is = c.go_on.ensures in
    let s = renewed (get_or c.prepare-ready.new.seats 0 nobody).state in
    let all = returns-in-Ok-clause-all g c in
    let some = all.some in
    let same : s ≡ first = one_first d s first c.go_on.result.seats (omega (arith, some, all.all)) (subst (All (IsSeatFrom d s)) (sym is.seats) (c.in-Ok.ensures.seats nobody)) from in
    rw is.homes.0 (rw is.hub.0 (key_from c.in-Ok.ready.homes.table.shared.key c.in-Ok.ready.log.id d s first (c.in-Ok.ensures.key nobody) same))
