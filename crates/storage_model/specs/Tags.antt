-- The violations that stand against a use of storage: 900 and the number of the rule.
use Rattle.jf_base.specs.declared.tag.Tag.{Tag}

-- outside a view
abbrev pub V01 : Tag
V01 = record { 0 = 901 }

-- an ended object or a closed loan
abbrev pub V02 : Tag
V02 = record { 0 = 902 }

-- a null pointer
abbrev pub V04 : Tag
V04 = record { 0 = 904 }

-- a misaligned access
abbrev pub V05 : Tag
V05 = record { 0 = 905 }

-- a write to what is read-only
abbrev pub V06 : Tag
V06 = record { 0 = 906 }

-- against an open loan
abbrev pub V07 : Tag
V07 = record { 0 = 907 }

-- pointers that can't be compared
abbrev pub V11 : Tag
V11 = record { 0 = 911 }

-- against the rules of descriptors
abbrev pub V21 : Tag
V21 = record { 0 = 921 }
