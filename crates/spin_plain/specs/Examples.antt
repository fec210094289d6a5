-- Four scripts of examples/ with one lane, and their reports as the plain dispatcher gives them.
use Rattle.std.specs.Prelude.{◌≡◌, ℕ, true, false, List, [], ◌∷◌, fold, Some, None, codes}
use Rattle.spin_values.specs.declared.types.Kind.TheVariants as kind
use Rattle.spin_values.specs.declared.types.Param.{Param}
use Rattle.spin_values.specs.declared.types.EventType.{EventType}
use Rattle.spin_values.specs.declared.values.Value.TheVariants as value
use Rattle.spin_code.specs.declared.expr.Expr.TheVariants.{Const, Arg, Field}
use Rattle.spin_code.specs.declared.test.Cmp.TheVariants as cmp
use Rattle.spin_code.specs.declared.test.Test.{Test}
use Rattle.spin_code.specs.declared.test.Test.TheVariants.{Compare, Any'}
use Rattle.spin_code.specs.declared.act.Layer.TheVariants as layer
use Rattle.spin_code.specs.declared.act.ActStep.TheVariants as step
use Rattle.spin_code.specs.declared.merge.Merge.TheVariants as merge
use Rattle.spin_word.specs.declared.command.Place.TheVariants as place
use Rattle.spin_word.specs.declared.command.Mode.TheVariants as mode
use Rattle.spin_grammar.specs.Bare.{nowhere}
use Rattle.spin_grammar.specs.Forms.{At, Before, Install, Remove, Raise, Later, Packet}
use Rattle.spin_grammar.specs.Lines.{LineMeaning, Event, Endpoint, Handler, Guard, Lane, Barrier, Retire}
use Rattle.spin_endpoint.specs.Named.{NamedEnd, added}
use Rattle.spin_script.specs.States.{NativeData, ScriptData, start, after, script_in}
use Rattle.spin_report.specs.Histories.{report_lines}
use Rattle.spin_report.specs.Runs.{CaptureSeen}
use Rattle.spin_plain.specs.Plain.{plain_history, plain_last}

-- no natives are handed in
abbrev pub no_natives : NativeData
no_natives = record { handlers = []; guards = []; authorisers = [] }

-- the script of these lines, each by its number in the text
abbrev pub script_with : List (ℕ × LineMeaning) → ScriptData
script_with lines = script_in no_natives (fold (λ s line. after no_natives s line.0 line.1) start lines)

-- a word by value, and bytes by value
abbrev pub word : Param
word = record { kind = kind.Word; var = false }

abbrev pub bytes : Param
bytes = record { kind = kind.Bytes; var = false }

-- the signatures w:w, b:w and -
abbrev pub word_to_word : EventType
word_to_word = record { params = word ∷ []; gives = true }

abbrev pub bytes_to_word : EventType
bytes_to_word = record { params = bytes ∷ []; gives = true }

abbrev pub of_nothing : EventType
of_nothing = record { params = []; gives = false }

-- examples/first.spin
abbrev pub first : ScriptData
first =
    script_with (
    (2, Event 0 0 word_to_word merge.Last)
    ∷ (3, Handler 1 word_to_word (step.Result (Const 5) ∷ []))
    ∷ (4, Lane 0 (Install 0 0 1 0 (At place.Free) mode.Plain))
    ∷ (5, Lane 0 (Raise 0 (value.Word 9 ∷ []))) ∷ []
    )

-- examples/order.spin
abbrev pub order : ScriptData
order =
    script_with (
    (3, Event 0 0 of_nothing merge.Last)
    ∷ (4, Handler 1 of_nothing [])
    ∷ (7, Lane 0 (Install 0 0 1 0 (At place.Free) mode.Plain))
    ∷ (8, Lane 0 (Install 0 0 1 0 (At place.First) mode.Plain))
    ∷ (9, Lane 0 (Install 0 0 1 0 (Before 1) mode.Plain))
    ∷ (10, Lane 0 (Install 0 0 1 0 (At place.Last) mode.Plain))
    ∷ (11, Lane 0 (Install 0 0 1 0 (At place.Free) mode.Plain))
    ∷ (12, Lane 0 (Raise 0 []))
    ∷ (15, Lane 0 (Remove 0 0 1))
    ∷ (16, Lane 0 (Raise 0 []))
    ∷ (19, Lane 0 (Install 0 0 1 0 (Before 2) mode.Plain)) ∷ []
    )

-- examples/jobs.spin
abbrev pub jobs : ScriptData
jobs =
    script_with (
    (3, Event 0 0 bytes_to_word merge.Last)
    ∷ (4, Endpoint 0 (codes "out0"))
    ∷ (5, Endpoint 1 (codes "printer"))
    ∷ (6, Handler 1 bytes_to_word (step.Result (Field 0 0 2) ∷ step.Send 0 0 2 ∷ []))
    ∷ (7, Handler 2 bytes_to_word (step.Send 1 0 0 ∷ []))
    ∷ (11, Lane 0 (Install 0 0 1 0 (At place.Free) mode.Async))
    ∷ (12, Lane 0 (Raise 0 (value.Bytes (1 ∷ 2 ∷ 170 ∷ 187 ∷ []) ∷ [])))
    ∷ (15, Lane 0 (Later 0 (value.Bytes (3 ∷ 4 ∷ 204 ∷ []) ∷ [])))
    ∷ (18, Lane 0 (Install 0 0 2 0 (At place.Free) mode.Plain))
    ∷ (19, Lane 0 (Raise 0 (value.Bytes (5 ∷ 6 ∷ 221 ∷ []) ∷ [])))
    ∷ (20, Barrier)
    ∷ (24, Retire 0)
    ∷ (25, Lane 0 (Raise 0 (value.Bytes (7 ∷ 8 ∷ 238 ∷ []) ∷ []))) ∷ []
    )

-- the one endpoint that is handed in beside it
abbrev pub one_end : List NamedEnd
one_end = added (codes "out0") (record { pieces = Some []; finishes = 0; faults = 0 }) ∷ []

-- b, bwww and bwwww: a frame, a packet and a datagram
abbrev pub of_frame : EventType
of_frame = record { params = bytes ∷ []; gives = false }

abbrev pub of_packet : EventType
of_packet = record { params = bytes ∷ word ∷ word ∷ word ∷ []; gives = false }

abbrev pub of_datagram : EventType
of_datagram = record { params = bytes ∷ word ∷ word ∷ word ∷ word ∷ []; gives = false }

-- the argument of that number is this number
abbrev pub is_number : ℕ → ℕ → Test
is_number arg number = Compare cmp.Eq (Arg arg) (Const number)

-- examples/packets.spin
abbrev pub packets : ScriptData
packets =
    script_with (
    (3, Event 0 0 of_frame merge.Last)
    ∷ (4, Event 1 0 of_packet merge.Last)
    ∷ (5, Event 2 0 of_datagram merge.Last)
    ∷ (6, Endpoint 0 (codes "out0"))
    ∷ (7, Handler 1 of_frame (step.Layer layer.Ipv4 1 ∷ []))
    ∷ (8, Handler 2 of_packet (step.Layer layer.Udp 2 ∷ []))
    ∷ (9, Handler 3 of_datagram (step.Send 0 0 0 ∷ []))
    ∷ (12, Guard 1 of_frame (Compare cmp.Eq (Field 0 12 2) (Const 2048)))
    ∷ (13, Guard 2 of_packet (is_number 1 17))
    ∷ (14, Guard 3 of_datagram (Any' nowhere (is_number 1 53) nowhere (is_number 2 53)))
    ∷ (15, Lane 0 (Install 0 0 1 1 (At place.Free) mode.Plain))
    ∷ (16, Lane 0 (Install 1 0 2 2 (At place.Free) mode.Plain))
    ∷ (17, Lane 0 (Install 2 0 3 3 (At place.Free) mode.Plain))
    ∷ (18, Barrier)
    ∷ (21, Lane 0 (Packet 0 100)) ∷ []
    )

-- four records of examples/packets.pcap: ARP, TCP, a query and its answer
abbrev pub arp : List ℕ
arp =
    255 ∷ 255 ∷ 255 ∷ 255 ∷ 255 ∷ 255 ∷ 2 ∷ 0 ∷ 0 ∷ 0 ∷ 0 ∷ 1 ∷ 8 ∷ 6 ∷ 0 ∷ 1 ∷ 8 ∷ 0 ∷ 6 ∷ 4
    ∷ 0 ∷ 1 ∷ 2 ∷ 0 ∷ 0 ∷ 0 ∷ 0 ∷ 1 ∷ 10 ∷ 0 ∷ 0 ∷ 1 ∷ 0 ∷ 0 ∷ 0 ∷ 0 ∷ 0 ∷ 0 ∷ 10 ∷ 0 ∷ 0 ∷ 2 ∷ []

abbrev pub tcp : List ℕ
tcp =
    2 ∷ 0 ∷ 0 ∷ 0 ∷ 0 ∷ 2 ∷ 2 ∷ 0 ∷ 0 ∷ 0 ∷ 0 ∷ 1 ∷ 8 ∷ 0 ∷ 69 ∷ 0 ∷ 0 ∷ 60 ∷ 28 ∷ 70 ∷ 64 ∷ 0
    ∷ 64 ∷ 6 ∷ 177 ∷ 230 ∷ 172 ∷ 16 ∷ 10 ∷ 99 ∷ 172 ∷ 16 ∷ 10 ∷ 12 ∷ 0 ∷ 0 ∷ 0 ∷ 0 ∷ 0 ∷ 0 ∷ 0
    ∷ 0 ∷ 0 ∷ 0 ∷ 0 ∷ 0 ∷ 0 ∷ 0 ∷ 0 ∷ 0 ∷ 0 ∷ 0 ∷ 0 ∷ 0 ∷ 0 ∷ 0 ∷ 0 ∷ 0 ∷ 0 ∷ 0 ∷ 0 ∷ 0 ∷ 0 ∷ 0
    ∷ 0 ∷ 0 ∷ 0 ∷ 0 ∷ 0 ∷ 0 ∷ 0 ∷ 0 ∷ 0 ∷ 0 ∷ []

abbrev pub query : List ℕ
query =
    2 ∷ 0 ∷ 0 ∷ 0 ∷ 0 ∷ 2 ∷ 2 ∷ 0 ∷ 0 ∷ 0 ∷ 0 ∷ 1 ∷ 8 ∷ 0 ∷ 69 ∷ 0 ∷ 0 ∷ 47 ∷ 0 ∷ 2 ∷ 64 ∷ 0
    ∷ 64 ∷ 17 ∷ 38 ∷ 186 ∷ 10 ∷ 0 ∷ 0 ∷ 1 ∷ 10 ∷ 0 ∷ 0 ∷ 2 ∷ 192 ∷ 0 ∷ 0 ∷ 53 ∷ 0 ∷ 27 ∷ 20
    ∷ 234 ∷ 18 ∷ 52 ∷ 1 ∷ 0 ∷ 0 ∷ 1 ∷ 0 ∷ 0 ∷ 0 ∷ 0 ∷ 0 ∷ 0 ∷ 1 ∷ 97 ∷ 0 ∷ 0 ∷ 1 ∷ 0 ∷ 1 ∷ []

abbrev pub reply : List ℕ
reply =
    2 ∷ 0 ∷ 0 ∷ 0 ∷ 0 ∷ 1 ∷ 2 ∷ 0 ∷ 0 ∷ 0 ∷ 0 ∷ 2 ∷ 8 ∷ 0 ∷ 69 ∷ 0 ∷ 0 ∷ 63 ∷ 0 ∷ 3 ∷ 64 ∷ 0
    ∷ 64 ∷ 17 ∷ 38 ∷ 169 ∷ 10 ∷ 0 ∷ 0 ∷ 2 ∷ 10 ∷ 0 ∷ 0 ∷ 1 ∷ 0 ∷ 53 ∷ 192 ∷ 0 ∷ 0 ∷ 43 ∷ 66
    ∷ 126 ∷ 18 ∷ 52 ∷ 129 ∷ 128 ∷ 0 ∷ 1 ∷ 0 ∷ 1 ∷ 0 ∷ 0 ∷ 0 ∷ 0 ∷ 1 ∷ 97 ∷ 0 ∷ 0 ∷ 1 ∷ 0 ∷ 1
    ∷ 192 ∷ 12 ∷ 0 ∷ 1 ∷ 0 ∷ 1 ∷ 0 ∷ 0 ∷ 0 ∷ 60 ∷ 0 ∷ 4 ∷ 10 ∷ 0 ∷ 0 ∷ 3 ∷ []

-- examples/packets.pcap, which has them twice
abbrev pub capture : CaptureSeen
capture = record { frames = arp ∷ tcp ∷ query ∷ reply ∷ arp ∷ tcp ∷ query ∷ reply ∷ []; cut = 0 }

-- Each has the report that stands beside it in examples/, but for the numbers 2 and 7 of the cycle in that of
-- order.spin.
pub record AreWorked : Type 0 where
  pub first_report :
      report_lines (plain_history first None [])
      ≡ codes "report 1"
      ∷ codes "segment 0 at 0"
      ∷ codes "1 0 4 install ok"
      ∷ codes "1 0 5 raise run 0 1 result 5 = value 5"
      ∷ codes "end 1" ∷ []
  pub order_report :
      report_lines (plain_history order None [])
      ≡ codes "report 1"
      ∷ codes "segment 0 at 0"
      ∷ codes "1 0 7 install ok"
      ∷ codes "2 0 8 install ok"
      ∷ codes "3 0 9 install ok"
      ∷ codes "4 0 10 install ok"
      ∷ codes "5 0 11 install ok"
      ∷ codes "5 0 12 raise run 0 2 run 0 3 run 0 1 run 0 5 run 0 4 = done"
      ∷ codes "6 0 15 remove ok"
      ∷ codes "6 0 16 raise run 0 2 run 0 3 run 0 5 run 0 4 = done"
      ∷ codes "6 0 19 install refused 11 conflict"
      ∷ codes "end 6" ∷ []
  pub jobs_report :
      report_lines (plain_history jobs None one_end)
      ≡ codes "report 1"
      ∷ codes "segment 0 at 0"
      ∷ codes "1 0 11 install ok"
      ∷ codes "1 0 12 raise job 0 1 = done"
      ∷ codes "1 0 15 later queued"
      ∷ codes "2 0 18 install ok"
      ∷ codes "2 0 19 raise job 0 1 run 0 2 send 1 3 = done"
      ∷ codes "job 1 0 12 0 run 0 1 result 258 send 0 2 = value 258"
      ∷ codes "job 1 0 15 0 run 0 1 result 772 send 0 1 = done"
      ∷ codes "job 2 0 19 0 run 0 1 result 1286 send 0 1 = value 1286"
      ∷ codes "lost 1 1"
      ∷ codes "retire 0 ok"
      ∷ codes "segment 1 at 2"
      ∷ codes "2 0 25 raise job 0 1 run 0 2 send 1 3 = done"
      ∷ codes "job 2 0 25 0 run 0 1 result 1800 send 0 1 = value 1800"
      ∷ codes "lost 0 1"
      ∷ codes "lost 1 1"
      ∷ codes "end 2" ∷ []
  pub jobs_ends :
      (plain_last jobs None one_end).ends
      ≡ record {
        name = codes "out0";
        stands = false;
        object =
            record { pieces = Some ((170 ∷ 187 ∷ []) ∷ (204 ∷ []) ∷ (221 ∷ []) ∷ []); finishes = 1; faults = 0 };
      } ∷ []
  pub packets_report :
      report_lines (plain_history packets (Some capture) one_end)
      ≡ codes "report 1"
      ∷ codes "segment 0 at 0"
      ∷ codes "1 0 15 install ok"
      ∷ codes "2 0 16 install ok"
      ∷ codes "3 0 17 install ok"
      ∷ codes "segment 1 at 3"
      ∷ codes "3 0 21.1 packet = nohandler"
      ∷ codes "3 0 21.2 packet run 0 1 up 1 back nohandler = done"
      ∷ codes "3 0 21.3 packet run 0 1 up 1 run 1 2 up 2 run 2 3 send 0 19 back done back done = done"
      ∷ codes "3 0 21.4 packet run 0 1 up 1 run 1 2 up 2 run 2 3 send 0 35 back done back done = done"
      ∷ codes "3 0 21.5 packet = nohandler"
      ∷ codes "3 0 21.6 packet run 0 1 up 1 back nohandler = done"
      ∷ codes "3 0 21.7 packet run 0 1 up 1 run 1 2 up 2 run 2 3 send 0 19 back done back done = done"
      ∷ codes "3 0 21.8 packet run 0 1 up 1 run 1 2 up 2 run 2 3 send 0 35 back done back done = done"
      ∷ codes "end 3 records 8 used 8 cut 0" ∷ []
