-- What steps that read headers make of their arguments.
use Rattle.std.specs.Prelude.{ℕ, ◌%◌, ◌^◌, List, [], ◌∷◌, drop, Result, Ok, Err}
use Rattle.spin_values.specs.declared.values.Value.{Value}
use Rattle.spin_values.specs.declared.values.Value.TheVariants.{Word, Bytes}
use Rattle.spin_headers.specs.declared.fault.HeaderFault.{HeaderFault}
use Rattle.spin_headers.specs.declared.ether.Ether.{Ether}
use Rattle.spin_headers.specs.declared.ipv4.Ipv4.{Ipv4}
use Rattle.spin_headers.specs.declared.udp.Udp.{Udp}
use Rattle.spin_headers.specs.Headers.{ether_of, ipv4_of, ipv4_payload, udp_of, udp_payload}
use Rattle.spin_code.specs.declared.act.Layer.{Layer}
use Rattle.spin_code.specs.declared.act.Layer.TheVariants as layer
use Rattle.spin_code.specs.Value.{word_at, bytes_at}

-- of an IPv4 packet with this header: its payload, its protocol and its two addresses
abbrev pub packet_args_by : List ℕ → Result Ipv4 HeaderFault → Result (List Value) HeaderFault
packet_args_by packet (Err fault) = Err fault
packet_args_by packet (Ok header) =
    Ok (Bytes (ipv4_payload header packet) ∷ Word header.protocol ∷ Word header.source ∷ Word header.destination ∷ [])

-- of an IPv4 packet: its payload, its protocol and its two addresses, or the first fault of its header
abbrev pub packet_args : List ℕ → Result (List Value) HeaderFault
packet_args packet = packet_args_by packet (ipv4_of packet)

-- the arguments of a frame whose header is there: those of the packet after its 14 bytes
abbrev pub frame_args_by : List ℕ → Result Ether HeaderFault → Result (List Value) HeaderFault
frame_args_by frame (Err fault) = Err fault
frame_args_by frame (Ok header) = packet_args (drop 14 frame)

-- of an Ethernet frame: payload, protocol and addresses of the packet in it, or the first fault of its headers
abbrev pub frame_args : List ℕ → Result (List Value) HeaderFault
frame_args frame = frame_args_by frame (ether_of frame)

-- of a UDP datagram with this header: its payload, its two ports and the addresses that exchange it
abbrev pub datagram_args_by : List ℕ → ℕ → ℕ → Result Udp HeaderFault → Result (List Value) HeaderFault
datagram_args_by datagram source destination (Err fault) = Err fault
datagram_args_by datagram source destination (Ok header) =
    Ok (Bytes (udp_payload header datagram) ∷ Word header.source_port
    ∷ Word header.destination_port ∷ Word source ∷ Word destination ∷ [])

-- of a UDP datagram between these addresses: payload, ports and addresses, or the first fault of its header
abbrev pub datagram_args : List ℕ → ℕ → ℕ → Result (List Value) HeaderFault
datagram_args datagram source destination =
    datagram_args_by datagram source destination (udp_of datagram source destination)

-- the arguments of the raise upwards that a layer step makes of these arguments, or the first fault of the headers
abbrev pub layer_args : Layer → List Value → Result (List Value) HeaderFault
layer_args layer.Ipv4 args = frame_args (bytes_at args 0)
layer_args layer.Udp args = datagram_args (bytes_at args 0) (word_at args 2 % 2 ^ 32) (word_at args 3 % 2 ^ 32)
