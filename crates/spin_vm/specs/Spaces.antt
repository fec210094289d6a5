-- What accesses come to: a space's regions and its mapped pages, and the raises of faults.
use Rattle.std.specs.Prelude.{ℕ, ◌+◌, ◌/◌, Bool, not, ◌&&◌, nat_lt, if◌then◌else◌, List, [], ◌∷◌, ◌++◌, length}
use Rattle.std.specs.Prelude.{sum_by, Option, Some, None, Result, Ok, Err, ok_or, is_some, slice_get, slice_set}
use Rattle.std.specs.List.{list_any}
use Rattle.std.specs.Map.{lookup, remove_entry}
use Rattle.std.specs.Ordering.{nat_cmp}
use Rattle.std.specs.BTreeMap.{insert_entry, is_at}
use Rattle.spin_values.specs.declared.values.Value.TheVariants as value
use Rattle.spin_word.specs.declared.work.Deed.{Deed}
use Rattle.spin_word.specs.declared.work.Deed.TheVariants as deed
use Rattle.spin_raise.specs.declared.answer.Answer.TheVariants as answer
use Rattle.spin_proto.specs.declared.reply.Reply.{Reply}
use Rattle.spin_proto.specs.declared.reply.Reply.TheVariants as reply
use Rattle.spin_vm.specs.declared.limits.TheConstants.{PAGE_SIZE, FRAMES}
use Rattle.spin_vm.specs.declared.line.Region.{Region}
use Rattle.spin_vm.specs.declared.line.Request.{Request}
use Rattle.spin_vm.specs.declared.line.Request.TheVariants as request
use Rattle.spin_vm.specs.declared.line.Statement.{Statement}
use Rattle.spin_vm.specs.declared.line.Statement.TheVariants as said
use Rattle.spin_vm.specs.declared.line.TraceLine.{TraceLine}
use Rattle.spin_vm.specs.declared.fault.Fault.{Fault}
use Rattle.spin_vm.specs.declared.fault.Fault.TheVariants as fault
use Rattle.spin_vm.specs.declared.came.Came.{Came}
use Rattle.spin_vm.specs.declared.came.Came.TheVariants as came
use Rattle.spin_vm.specs.Regions.{has_some, with_region}

-- ---- a space

-- its regions by rising start, and its mapped pages by rising number, each with its frame
pub record Space : Type 0 where
  pub regions : List Region
  pub pages : List (ℕ × ℕ)

-- a space without regions, in which no page is mapped
abbrev pub empty_space : Space
empty_space = record { regions = []; pages = [] }

-- the page of an address
abbrev pub page_of : ℕ → ℕ
page_of address = address / PAGE_SIZE

-- the page lies in the region
abbrev pub has_page : ℕ → Region → Bool
has_page page r = has_some page (page + 1) r

-- the frame of a page, if it is mapped
abbrev pub frame_at : ℕ → List (ℕ × ℕ) → Option ℕ
frame_at page pages = lookup (is_at (nat_cmp page)) pages

-- the pages, with that one mapped to a frame, if there is one
abbrev pub with_page : ℕ → Option ℕ → List (ℕ × ℕ) → List (ℕ × ℕ)
with_page page None pages = pages
with_page page (Some frame) pages = insert_entry nat_cmp pages page frame

-- all pages but that one
abbrev pub without_page : ℕ → List (ℕ × ℕ) → List (ℕ × ℕ)
without_page page pages = remove_entry (is_at (nat_cmp page)) pages

-- the frame of an access to the page, or its fault
abbrev pub look_up : Space → ℕ → Bool → Result ℕ Fault
look_up s page write =
    if not (list_any (has_page page) s.regions) then Err fault.BadAddress
    else (if write && not (list_any (λ r. has_page page r && r.writable) s.regions)
    then Err fault.ProtectionFault else ok_or (frame_at page s.pages) fault.PageNotPresent)

-- ---- faults are raises

-- the event that a fault raises
abbrev pub event_of : Fault → ℕ
event_of fault.PageNotPresent = 0
event_of fault.BadAddress = 1
event_of fault.ProtectionFault = 2

-- the fault of an access to the page of a space, with 1 for a write and 0 for a read
abbrev pub raise_of : Fault → (space page : ℕ) → Bool → Deed
raise_of f space page write =
    deed.Raise (event_of f)
    (value.Word space ∷ value.Word page ∷ value.Word (if write then 1 else 0) ∷ [])

-- the frame of that number, if the number is below 65,536
abbrev pub frame_if : ℕ → Option ℕ
frame_if n = if nat_lt n FRAMES then Some n else None

-- the frame that an answer gives
abbrev pub frame_in : Reply → Option ℕ
frame_in (reply.Ran (answer.Value n) trace jobs) = frame_if n
frame_in (reply.Ran (answer.Default (Some n)) trace jobs) = frame_if n
frame_in other = None

-- of the faults that of a missing page alone gives one
abbrev pub frame_given : Fault → Reply → Option ℕ
frame_given fault.PageNotPresent answered = frame_in answered
frame_given other answered = None

-- ---- what lines come to, where `reply` replies to raises

-- what an access with a fault comes to: the fault, the reply to its raise, and the frame that this gives, if any
abbrev pub faulted : Fault → Reply → Came
faulted f answered = came.Faulted f answered (frame_given f answered)

-- what an access comes to: the frame that was found, or the fault and the reply to its raise
abbrev pub access_came : (Deed → Reply) → (space page : ℕ) → Bool → Result ℕ Fault → Came
access_came reply space page write (Ok frame) = came.Found frame
access_came reply space page write (Err f) = faulted f (reply (raise_of f space page write))

-- what a request to the space of that number comes to
abbrev pub came_of : (Deed → Reply) → ℕ → Space → Request → Option Came
came_of reply space s (request.Region r) = None
came_of reply space s (request.Unmap page) = Some (came.Unmapped (is_some (frame_at page s.pages)))
came_of reply space s (request.Access address write) =
    Some (access_came reply space (page_of address) write (look_up s (page_of address) write))

-- a page that wasn't mapped is mapped to a frame that its fault gave
abbrev pub mapped : ℕ → Came → List (ℕ × ℕ) → List (ℕ × ℕ)
mapped page (came.Faulted f answered frame) pages = with_page page frame pages
mapped page other pages = pages

-- the space after an access: a page that wasn't there is mapped where the reply gave a frame
abbrev pub after_access : (Deed → Reply) → ℕ → Space → ℕ → Bool → Space
after_access reply space s page write =
    record s { pages = mapped page (access_came reply space page write (look_up s page write)) s.pages }

-- the space after a request
abbrev pub space_after : (Deed → Reply) → ℕ → Space → Request → Space
space_after reply space s (request.Region r) = record s { regions = with_region r s.regions }
space_after reply space s (request.Unmap page) = record s { pages = without_page page s.pages }
space_after reply space s (request.Access address write) =
    after_access reply space s (page_of address) write

-- ---- all spaces

-- the space, or an empty one where there is none
abbrev pub space_if : Option Space → Space
space_if None = empty_space
space_if (Some s) = s

-- the space of that number, or an empty one where there is none
abbrev pub space_at : List Space → ℕ → Space
space_at spaces space = space_if (slice_get spaces space)

-- what a line comes to, if it is an access or takes a page out
abbrev pub said_came : (Deed → Reply) → List Space → Statement → Option Came
said_came reply spaces (said.Space space) = None
said_came reply spaces (said.At space asked) = came_of reply space (space_at spaces space) asked

-- a line changes its own space alone
abbrev pub spaces_after : (Deed → Reply) → List Space → Statement → List Space
spaces_after reply spaces (said.Space space) = spaces ++ empty_space ∷ []
spaces_after reply spaces (said.At space asked) =
    slice_set spaces space (space_after reply space (space_at spaces space) asked)

-- ---- all lines

-- what a line came to, by the line's number and its space
pub record Answered : Type 0 where
  pub number : ℕ
  pub space : ℕ
  pub came : Came

-- the space that a line is about
abbrev pub space_of : Statement → ℕ
space_of (said.Space space) = space
space_of (said.At space asked) = space

-- a list of what the line came to, with its number and its space; the empty list where it came to nothing
abbrev pub answered_if : TraceLine → Option Came → List Answered
answered_if line None = []
answered_if line (Some c) = record { number = line.number; space = space_of line.said; came = c } ∷ []

-- what the accesses and unmappings of these lines come to, behind these spaces
abbrev pub answers : (Deed → Reply) → List Space → List TraceLine → List Answered
answers reply spaces [] = []
answers reply spaces (line ∷ lines) =
    answered_if line (said_came reply spaces line.said)
    ++ answers reply (spaces_after reply spaces line.said) lines

-- the spaces behind these lines
abbrev pub last_spaces : (Deed → Reply) → List Space → List TraceLine → List Space
last_spaces reply spaces [] = spaces
last_spaces reply spaces (line ∷ lines) =
    last_spaces reply (spaces_after reply spaces line.said) lines

-- how many pages are mapped in all
abbrev pub mapped_pages : List Space → ℕ
mapped_pages spaces = sum_by (λ s. length s.pages) spaces
