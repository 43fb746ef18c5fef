-- The catalogue: the number of each refusal.
use Rattle.std.specs.Prelude.{ℕ, ◌≡◌, ◌≢◌, Result, Ok, Err, MatchResult}
use Rattle.answers.specs.Tests.{Check}
use Rattle.answers.specs.declared.Refusal.{Refusal}
use Rattle.answers.specs.declared.Refusal.TheVariants as refusal
use Rattle.answers.specs.declared.UnknownNumber.{UnknownNumber}

abbrev pub number_of : Refusal → ℕ
number_of refusal.InvalidElfMagicNumber = 1
number_of refusal.BigEndianElfOnLittle = 2
number_of refusal.InvalidProgramHeaderSize = 3
number_of refusal.InvalidProgramHeaderOffset = 4
number_of refusal.InvalidEntryAddress = 5
number_of refusal.Overflow = 6
number_of refusal.ReadElfHeader = 7
number_of refusal.ReadProgramHeader = 8
number_of refusal.InvalidProgramHeaderAddress = 9
number_of refusal.ReadKernelImage = 10
number_of refusal.ReadNoteHeader = 11
number_of refusal.InvalidPvhNote = 12
number_of refusal.MemoryOverflow = 13
number_of refusal.InvalidProgramHeaderFileSize = 14
number_of refusal.InvalidBzImage = 21
number_of refusal.Underflow = 22
number_of refusal.InvalidKernelStartAddress = 23
number_of refusal.ReadBzImageCompressedKernel = 24
number_of refusal.InvalidCommandLine = 31
number_of refusal.CommandLineOverflow = 32
number_of refusal.InvalidCapacity = 41
number_of refusal.InvalidAscii = 42
number_of refusal.HasSpace = 43
number_of refusal.HasEquals = 44
number_of refusal.MissingVal = 45
number_of refusal.MmioSize = 46
number_of refusal.TooLarge = 47
number_of refusal.NoQuoteSpace = 48
number_of refusal.InvalidQuote = 49
number_of refusal.NoBootArgsInserted = 50
number_of refusal.NullTerminator = 51
number_of refusal.SliceTooLong = 60
number_of refusal.BadList = 61
number_of refusal.NoRoom = 62
number_of refusal.NoBudget = 63
number_of refusal.LentChanged = 64
number_of refusal.BadJob = 70
number_of refusal.UnclosedQuote = 71
number_of refusal.TooFewPlaces = 72
number_of refusal.BadPageSize = 73
number_of refusal.TooManyRows = 74
number_of refusal.BadRow = 75
number_of refusal.BadPart = 76
number_of refusal.BadMap = 77
number_of refusal.BadStartMagic = 78
number_of refusal.BadStartVersion = 79
number_of refusal.BadStartReserved = 80
number_of refusal.ShortImage = 81
number_of refusal.BadImageMagic = 82
number_of refusal.BigEndianImage = 83
number_of refusal.NoImageSize = 84
number_of refusal.UnalignedBase = 85
number_of refusal.ImageStartWraps = 86
number_of refusal.NoRoomForImage = 87
number_of refusal.ImageEndWraps = 88
number_of refusal.LineTooLong = 91
number_of refusal.WrongEntry = 92
number_of refusal.No64BitEntry = 93
number_of refusal.NoPvhEntry = 94
number_of refusal.LineNotInTree = 95
number_of refusal.KernelOutside = 96
number_of refusal.RamdiskOutside = 97
number_of refusal.BootDataOutside = 98
number_of refusal.RamdiskTooHigh = 99
number_of refusal.KernelMeetsLine = 100
number_of refusal.KernelMeetsRamdisk = 101
number_of refusal.KernelMeetsBootData = 102
number_of refusal.LineMeetsRamdisk = 103
number_of refusal.LineMeetsBootData = 104
number_of refusal.RamdiskMeetsBootData = 105
number_of refusal.KernelNotInRows = 106
number_of refusal.LineNotInRows = 107
number_of refusal.RamdiskNotInRows = 108

-- the refusal of a number, or that no refusal has it
abbrev pub HasNumber : ℕ → Result Refusal UnknownNumber → Type 0
HasNumber n r =
    MatchResult r (λ refusal. number_of refusal ≡ n)
    (λ unknown. (unknown.0 ≡ n) × ((refusal : Refusal) → number_of refusal ≢ n))

-- the number of what tests answer: the refusal's, and 0 if none refused
abbrev pub check_number : Check → ℕ
check_number (Ok _) = 0
check_number (Err r) = number_of r
