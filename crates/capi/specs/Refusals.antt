-- The refusal that a number of the catalogue stands for.
use Rattle.std.specs.Prelude.{ℕ, Bool, ◌||◌, List, [], ◌∷◌, eqb}
use Rattle.answers.specs.Pick.{pick}
use Rattle.answers.specs.Catalogue.{number_of}
use Rattle.answers.specs.declared.Refusal.{Refusal}
use Rattle.answers.specs.declared.Refusal.TheVariants as refusal

-- every refusal
abbrev pub every_refusal : List Refusal
every_refusal =
    refusal.InvalidElfMagicNumber ∷
    refusal.BigEndianElfOnLittle ∷
    refusal.InvalidProgramHeaderSize ∷
    refusal.InvalidProgramHeaderOffset ∷
    refusal.InvalidEntryAddress ∷
    refusal.Overflow ∷
    refusal.ReadElfHeader ∷
    refusal.ReadProgramHeader ∷
    refusal.InvalidProgramHeaderAddress ∷
    refusal.ReadKernelImage ∷
    refusal.ReadNoteHeader ∷
    refusal.InvalidPvhNote ∷
    refusal.MemoryOverflow ∷
    refusal.InvalidProgramHeaderFileSize ∷
    refusal.InvalidBzImage ∷
    refusal.Underflow ∷
    refusal.InvalidKernelStartAddress ∷
    refusal.ReadBzImageCompressedKernel ∷
    refusal.InvalidCommandLine ∷
    refusal.CommandLineOverflow ∷
    refusal.InvalidCapacity ∷
    refusal.InvalidAscii ∷
    refusal.HasSpace ∷
    refusal.HasEquals ∷
    refusal.MissingVal ∷
    refusal.MmioSize ∷
    refusal.TooLarge ∷
    refusal.NoQuoteSpace ∷
    refusal.InvalidQuote ∷
    refusal.NoBootArgsInserted ∷
    refusal.NullTerminator ∷
    refusal.SliceTooLong ∷
    refusal.BadList ∷
    refusal.NoRoom ∷
    refusal.NoBudget ∷
    refusal.LentChanged ∷
    refusal.BadJob ∷
    refusal.UnclosedQuote ∷
    refusal.TooFewPlaces ∷
    refusal.BadPageSize ∷
    refusal.TooManyRows ∷
    refusal.BadRow ∷
    refusal.BadPart ∷
    refusal.BadMap ∷
    refusal.BadStartMagic ∷
    refusal.BadStartVersion ∷
    refusal.BadStartReserved ∷
    refusal.ShortImage ∷
    refusal.BadImageMagic ∷
    refusal.BigEndianImage ∷
    refusal.NoImageSize ∷
    refusal.UnalignedBase ∷
    refusal.ImageStartWraps ∷
    refusal.NoRoomForImage ∷
    refusal.ImageEndWraps ∷
    refusal.LineTooLong ∷
    refusal.WrongEntry ∷
    refusal.No64BitEntry ∷
    refusal.NoPvhEntry ∷
    refusal.LineNotInTree ∷
    refusal.KernelOutside ∷
    refusal.RamdiskOutside ∷
    refusal.BootDataOutside ∷
    refusal.RamdiskTooHigh ∷
    refusal.KernelMeetsLine ∷
    refusal.KernelMeetsRamdisk ∷
    refusal.KernelMeetsBootData ∷
    refusal.LineMeetsRamdisk ∷
    refusal.LineMeetsBootData ∷
    refusal.RamdiskMeetsBootData ∷
    refusal.KernelNotInRows ∷
    refusal.LineNotInRows ∷
    refusal.RamdiskNotInRows ∷
    []

-- the first of a list with this number; BadList where there is none
unfoldable pub first_with : ℕ → List Refusal → Refusal
first_with n [] = refusal.BadList
first_with n (r ∷ rs) = pick (eqb n (number_of r)) r (first_with n rs)

unfoldable pub refusal_of : ℕ → Refusal
refusal_of n = first_with n every_refusal

-- does a number stand for an answer? 0 does, for one that accepts
unfoldable pub is_known : ℕ → Bool
is_known n = eqb n 0 || eqb n (number_of (refusal_of n))
