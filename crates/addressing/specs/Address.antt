-- Operand addresses. Document 01: "vaddr is the low 16 bits of the register plus the immediate, modulo 65,536. Pop reads at sp minus vaddr and push writes at the
-- old sp then adds, both modulo 65,536. The answer is either no location or a memory kind, page and index." Memory kinds: 1 stack, 2 code. Document 02, CR 1: "The
-- operand stage's location now carries its time: the state's time for a read, 3 more for a write." w is the width of sp and immediates, 16 in the production encoding.
use Rattle.std.specs.Prelude.{ℕ, ◌+◌, ◌^◌, Bool, cond, ◌&&◌, ◌||◌, List, ◌==◌, nat_le}
use Rattle.u256.specs.declared.U256.{U256}
use Rattle.u256.specs.U256.{low_of}
use Rattle.u256.specs.Word.{wrapping_sum, wrapping_difference}
use Rattle.addressing.specs.declared.MemoryType.{MemoryType}
use Rattle.records.specs.declared.Record.{Record}
use Rattle.addressing.specs.declared.Location.{Location}
use Rattle.addressing.specs.declared.Located.{Located}
use Rattle.addressing.specs.declared.Places.{Places}
use Rattle.registers.specs.Registers.{register_of}
use Rattle.records.specs.Record.{is_nop, is_arithmetic}

abbrev pub vaddr_of : ℕ → U256 → ℕ → ℕ
vaddr_of w register imm = wrapping_sum w (low_of w register) imm

-- kinds 2 push/pop, 3 stack offset, 5 absolute stack
abbrev pub is_stack_kind : ℕ → Bool
is_stack_kind kind = kind == 2 || kind == 3 || kind == 5

-- a location has its memory kind, index, page and time in this order, that of the fields
abbrev pub on_stack : ℕ → ℕ → ℕ → Location
on_stack page index time = Location.At 1 index page time

abbrev pub in_code : ℕ → ℕ → ℕ → Location
in_code page index time = Location.At 2 index page time

abbrev pub location_in : MemoryType → ℕ → ℕ → ℕ → Location
location_in MemoryType.Stack page index time = on_stack page index time
location_in MemoryType.Code page index time = in_code page index time

-- refusal 14: "page of a stack kind", above 32 bits. "Stack page is base plus 1": stages/specs/Operands.antt has the sum itself.
abbrev pub lacks_stack_page : Record → ℕ → Bool
lacks_stack_page r base = (is_stack_kind r.source_kind || is_stack_kind r.destination_kind) && nat_le (2 ^ 32) (base + 1)

-- "A write time is formed only for add and sub; any other operation's write location carries 0."
abbrev pub write_time : Record → ℕ → ℕ
write_time r time = cond (is_arithmetic r) (time + 3) 0

-- refusal 14: "time of a memory write", above 32 bits
abbrev pub lacks_write_time : Record → ℕ → Bool
lacks_write_time r time = is_stack_kind r.destination_kind && nat_le (2 ^ 32) (write_time r time)

-- a source of this kind, at this time, and sp after it
unfoldable pub source_at : ℕ → ℕ → ℕ → ℕ → ℕ → ℕ → ℕ → Located
source_at w kind stack_page code_page sp vaddr time = record {
  location =
      cond (kind == 2) (on_stack stack_page (wrapping_difference w sp vaddr) time)
      (cond (kind == 3) (on_stack stack_page (wrapping_difference w sp vaddr) time)
      (cond (kind == 4) (in_code code_page vaddr time)
      (cond (kind == 5) (on_stack stack_page vaddr time)
      Location.None)));
  sp = cond (kind == 2) (wrapping_difference w sp vaddr) sp;
}

-- a destination of this kind, at this time, and sp after it
unfoldable pub destination_at : ℕ → ℕ → ℕ → ℕ → ℕ → ℕ → Located
destination_at w kind stack_page sp vaddr time = record {
  location =
      cond (kind == 2) (on_stack stack_page sp time)
      (cond (kind == 3) (on_stack stack_page (wrapping_difference w sp vaddr) time)
      (cond (kind == 5) (on_stack stack_page vaddr time)
      Location.None));
  sp = cond (kind == 2) (wrapping_sum w sp vaddr) sp;
}

-- "Nop reads nothing"
abbrev pub source_read : Bool → Location → Location
source_read nop source = cond nop Location.None source

-- "Source first, then destination on the changed sp"
abbrev pub source_of : ℕ → Record → List U256 → ℕ → ℕ → ℕ → ℕ → Located
source_of w r registers stack_page code_page sp time =
    source_at w r.source_kind stack_page code_page sp (vaddr_of w (register_of registers r.src0) r.imm_0) time

abbrev pub destination_of : ℕ → Record → List U256 → ℕ → ℕ → ℕ → Located
destination_of w r registers stack_page sp time =
    destination_at w r.destination_kind stack_page sp (vaddr_of w (register_of registers r.dst0) r.imm_1) time

unfoldable pub places_of : ℕ → Record → List U256 → ℕ → ℕ → ℕ → ℕ → ℕ → Places
places_of w r registers stack_page code_page sp source_time destination_time = record {
  source = source_read (is_nop r) (source_of w r registers stack_page code_page sp source_time).location;
  destination = (destination_of w r registers stack_page (source_of w r registers stack_page code_page sp source_time).sp destination_time).location;
  sp = (destination_of w r registers stack_page (source_of w r registers stack_page code_page sp source_time).sp destination_time).sp;
}
