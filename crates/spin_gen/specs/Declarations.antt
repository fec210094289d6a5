-- What the script declares.
use Rattle.std.specs.Prelude.{ℕ, ◌-◌, true, false, List, [], ◌∷◌, ◌++◌, map, codes}
use Rattle.std.specs.List.{range_with_len}
use Rattle.spin_values.specs.declared.types.Kind.TheVariants as kind
use Rattle.spin_values.specs.declared.types.Param.{Param}
use Rattle.spin_values.specs.declared.types.EventType.{EventType}
use Rattle.spin_code.specs.declared.expr.Expr.{Expr}
use Rattle.spin_code.specs.declared.expr.Expr.TheVariants.{Const, Arg, Field, Plus', And'}
use Rattle.spin_code.specs.declared.test.Cmp.TheVariants as cmp
use Rattle.spin_code.specs.declared.test.Test.TheVariants.{Compare}
use Rattle.spin_code.specs.declared.act.Layer.TheVariants as layer
use Rattle.spin_code.specs.declared.act.ActStep.TheVariants as step
use Rattle.spin_code.specs.declared.merge.Merge.TheVariants as merge
use Rattle.spin_grammar.specs.Bare.{nowhere}
use Rattle.spin_grammar.specs.Lines.{LineMeaning, Modules, Event, Endpoint, Handler, Guard}

-- ---- signatures, all by value

-- a parameter that is a word by value
abbrev pub word : Param
word = record { kind = kind.Word; var = false }

-- a parameter that is bytes by value
abbrev pub bytes : Param
bytes = record { kind = kind.Bytes; var = false }

-- w:w
abbrev pub word_to_word : EventType
word_to_word = record { params = word ∷ []; gives = true }

-- w
abbrev pub of_word : EventType
of_word = record { params = word ∷ []; gives = false }

-- b, a frame
abbrev pub of_frame : EventType
of_frame = record { params = bytes ∷ []; gives = false }

-- bwww, a packet with its protocol and its addresses
abbrev pub of_packet : EventType
of_packet = record { params = bytes ∷ word ∷ word ∷ word ∷ []; gives = false }

-- bwwww, a datagram with its ports and its addresses
abbrev pub of_datagram : EventType
of_datagram = record { params = bytes ∷ word ∷ word ∷ word ∷ word ∷ []; gives = false }

-- ---- expressions

-- the expression of the sum of both
abbrev pub plus : Expr → Expr → Expr
plus a b = Plus' nowhere a nowhere b

-- the expression of the bits that both have
abbrev pub and : Expr → Expr → Expr
and a b = And' nowhere a nowhere b

-- ---- declarations

-- an event of words, which adds up the results
abbrev pub sum_event : ℕ → LineMeaning
sum_event number = Event number 0 word_to_word (merge.Fold (plus (Arg 0) (Arg 1)))

-- adds its own number to the word
abbrev pub adding_handler : ℕ → LineMeaning
adding_handler number =
    Handler number word_to_word (step.Result (plus (Arg 0) (Const number)) ∷ [])

-- admits a word whose two low bits are the guard's number less 1
abbrev pub low_bits_guard : ℕ → LineMeaning
low_bits_guard number =
    Guard number of_word (Compare cmp.Eq (and (Arg 0) (Const 3)) (Const (number - 1)))

-- Events 0 to 7 are of words, 8 of frames, 9 of packets, 10 of datagrams. Handlers 5, 6 and 7 hand a frame up to a
-- packet, a packet to a datagram, and a datagram's bytes to the endpoint. Guards 5, 6 and 7 admit frames of IPv4,
-- packets of UDP, and datagrams to a port below 512.
abbrev pub declarations : List LineMeaning
declarations =
    Modules 1 ∷ (map sum_event (range_with_len 0 8) ++ Event 8 0 of_frame merge.Last
    ∷ Event 9 0 of_packet merge.Last
    ∷ Event 10 0 of_datagram merge.Last
    ∷ Endpoint 0 (codes "out0") ∷ (map adding_handler (range_with_len 1 4)
    ++ Handler 5 of_frame (step.Layer layer.Ipv4 9 ∷ [])
    ∷ Handler 6 of_packet (step.Layer layer.Udp 10 ∷ [])
    ∷ Handler 7 of_datagram (step.Send 0 0 0 ∷ []) ∷ (map low_bits_guard (range_with_len 1 4)
    ++ Guard 5 of_frame (Compare cmp.Eq (Field 0 12 2) (Const 2048))
    ∷ Guard 6 of_packet (Compare cmp.Eq (Arg 1) (Const 17))
    ∷ Guard 7 of_datagram (Compare cmp.Lt (Arg 2) (Const 512))
    ∷ [])))
