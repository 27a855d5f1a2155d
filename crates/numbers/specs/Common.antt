use Rattle.std.specs.Prelude.{◌≡◌, ℕ, List, [], ◌∷◌, Result, MatchResult, codes}
use Rattle.numbers.specs.declared.common.Format.{Format}
use Rattle.numbers.specs.declared.common.Format.TheVariants.{Dwarf32, Dwarf64}
use Rattle.numbers.specs.declared.common.SectionId.{SectionId}
use Rattle.numbers.specs.declared.common.SectionId.TheVariants.{DebugAbbrev, DebugAddr, DebugAranges, DebugCuIndex, DebugFrame, EhFrame, EhFrameHdr, DebugGnuPubNames, DebugGnuPubTypes, DebugInfo, DebugLine, DebugLineStr, DebugLoc, DebugLocLists, DebugMacinfo, DebugMacro, DebugNames, DebugPubNames, DebugPubTypes, DebugRanges, DebugRngLists, DebugStr, DebugStrOffsets, DebugTuIndex, DebugTypes}

-- the bytes of an offset or a length: four in 32-bit DWARF, eight in 64-bit DWARF
abbrev pub word_size : Format → ℕ
word_size Dwarf32 = 4
word_size Dwarf64 = 8

-- the bits of an offset or a length, as a text
abbrev pub format_name : Format → List ℕ
format_name Dwarf32 = codes "32"
format_name Dwarf64 = codes "64"

-- the answer to a text: what it names, or an error where it names nothing
abbrev pub IsNamed : {A E : Type 0} → (A → List ℕ) → List ℕ → Result A E → Type 0
IsNamed name text r = MatchResult r (λ x. name x ≡ text) (λ _. (x : _) → name x ≡ text → ⊥)

-- a section's name in an ELF file
abbrev pub section_name : SectionId → List ℕ
section_name DebugAbbrev = codes ".debug_abbrev"
section_name DebugAddr = codes ".debug_addr"
section_name DebugAranges = codes ".debug_aranges"
section_name DebugCuIndex = codes ".debug_cu_index"
section_name DebugFrame = codes ".debug_frame"
section_name EhFrame = codes ".eh_frame"
section_name EhFrameHdr = codes ".eh_frame_hdr"
section_name DebugGnuPubNames = codes ".debug_gnu_pubnames"
section_name DebugGnuPubTypes = codes ".debug_gnu_pubtypes"
section_name DebugInfo = codes ".debug_info"
section_name DebugLine = codes ".debug_line"
section_name DebugLineStr = codes ".debug_line_str"
section_name DebugLoc = codes ".debug_loc"
section_name DebugLocLists = codes ".debug_loclists"
section_name DebugMacinfo = codes ".debug_macinfo"
section_name DebugMacro = codes ".debug_macro"
section_name DebugNames = codes ".debug_names"
section_name DebugPubNames = codes ".debug_pubnames"
section_name DebugPubTypes = codes ".debug_pubtypes"
section_name DebugRanges = codes ".debug_ranges"
section_name DebugRngLists = codes ".debug_rnglists"
section_name DebugStr = codes ".debug_str"
section_name DebugStrOffsets = codes ".debug_str_offsets"
section_name DebugTuIndex = codes ".debug_tu_index"
section_name DebugTypes = codes ".debug_types"

-- the sections
abbrev pub all_sections : List SectionId
all_sections = DebugAbbrev ∷ DebugAddr ∷ DebugAranges ∷ DebugCuIndex ∷ DebugFrame ∷ EhFrame ∷ EhFrameHdr ∷ DebugGnuPubNames ∷ DebugGnuPubTypes ∷ DebugInfo ∷ DebugLine ∷ DebugLineStr ∷ DebugLoc ∷ DebugLocLists ∷ DebugMacinfo ∷ DebugMacro ∷ DebugNames ∷ DebugPubNames ∷ DebugPubTypes ∷ DebugRanges ∷ DebugRngLists ∷ DebugStr ∷ DebugStrOffsets ∷ DebugTuIndex ∷ DebugTypes ∷ []
