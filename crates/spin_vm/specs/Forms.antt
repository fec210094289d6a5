-- What the words of a line say.
use Rattle.std.specs.Prelude.{ℕ, Bool, true, false, ◌&&◌, if◌then◌else◌, List}
use Rattle.std.specs.Prelude.{[], ◌∷◌, Option, Some, None, codes, bytes_eq}
use Rattle.spin_text.specs.Words.{Word}
use Rattle.spin_grammar.specs.Spelling.{number, within, greatest}
use Rattle.spin_vm.specs.declared.line.Request.TheVariants as request
use Rattle.spin_vm.specs.declared.line.Statement.{Statement}
use Rattle.spin_vm.specs.declared.line.Statement.TheVariants as said

-- a number below 2^64
abbrev pub number_of : Word → Option ℕ
number_of w = within 0 greatest (number w)

-- whether a region with these rights may be written to
abbrev pub rights_of : Word → Option Bool
rights_of w =
    if bytes_eq w (codes "r") then Some false
    else (if bytes_eq w (codes "rw") then Some true else None)

-- whether an access of this kind writes
abbrev pub access_kind : Word → Option Bool
access_kind w =
    if bytes_eq w (codes "r") then Some false
    else (if bytes_eq w (codes "w") then Some true else None)

-- that there is a space of that number, if the word is a number
abbrev pub space_if : Option ℕ → Option Statement
space_if None = None
space_if (Some space) = Some (said.Space space)

-- that a space has a region, if space, start and pages are numbers and the rights are known
abbrev pub region_if : Option ℕ → Option ℕ → Option ℕ → Option Bool → Option Statement
region_if (Some space) (Some start) (Some pages) (Some writable) =
    Some (said.At space (request.Region (record { start = start; pages = pages; writable = writable })))
region_if _ _ _ _ = None

-- that a page is taken out of the map of a space, if both words are numbers
abbrev pub unmap_if : Option ℕ → Option ℕ → Option Statement
unmap_if (Some space) (Some page) = Some (said.At space (request.Unmap page))
unmap_if _ _ = None

-- that a space has an access, if space and address are numbers and the kind is known
abbrev pub access_if : Option ℕ → Option ℕ → Option Bool → Option Statement
access_if (Some space) (Some address) (Some write) =
    Some (said.At space (request.Access address write))
access_if _ _ _ = None

-- `S` behind `space`
abbrev pub space_form : List Word → Option Statement
space_form (s ∷ []) = space_if (number_of s)
space_form ws = None

-- `S START PAGES RIGHTS` behind `region`
abbrev pub region_form : List Word → Option Statement
region_form (s ∷ start ∷ pages ∷ rights ∷ []) =
    region_if (number_of s) (number_of start) (number_of pages) (rights_of rights)
region_form ws = None

-- `S PAGE` behind `unmap`
abbrev pub unmap_form : List Word → Option Statement
unmap_form (s ∷ page ∷ []) = unmap_if (number_of s) (number_of page)
unmap_form ws = None

-- `S ADDRESS KIND` behind `access`
abbrev pub access_form : List Word → Option Statement
access_form (s ∷ address ∷ kind ∷ []) = access_if (number_of s) (number_of address) (access_kind kind)
access_form ws = None

-- what the words say, where they have one of the forms
abbrev pub says : List Word → Option Statement
says [] = None
says (w ∷ ws) =
    if bytes_eq w (codes "space") then space_form ws
    else (if bytes_eq w (codes "region") then region_form ws
    else (if bytes_eq w (codes "unmap") then unmap_form ws
    else (if bytes_eq w (codes "access") then access_form ws else None)))

-- the first line that isn't skipped
abbrev pub is_first : List Word → Bool
is_first (name ∷ version ∷ []) = bytes_eq name (codes "vm") && bytes_eq version (codes "1")
is_first ws = false
